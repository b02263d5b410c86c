pub mod Afterwards
pub mod LastTracked
pub mod Turns
