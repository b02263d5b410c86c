pub mod Pointers
pub mod Pools
pub mod Small
