pub mod PointerLaws
pub mod ChainLaws
pub mod Chaining
pub mod Walking
pub mod Digests
pub mod OpenPlaces
pub mod ChainBack
pub mod ChainPages
