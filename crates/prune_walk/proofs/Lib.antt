mod Stable
mod AgeOrder
pub mod Pruned
pub mod Takes
