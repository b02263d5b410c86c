pub mod Bounds
pub mod Maps
pub mod Orders
pub mod Runs
pub mod Pools
pub mod HomeSums
pub mod HomeStats
