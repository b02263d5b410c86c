pub mod Insertions
pub mod Shares
pub mod Sizes
