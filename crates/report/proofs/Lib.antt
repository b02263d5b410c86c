pub mod HexLemmas
pub mod ItemLemmas
pub mod LaneLemmas
pub mod StatLemmas
pub mod WordLemmas
pub mod Written
