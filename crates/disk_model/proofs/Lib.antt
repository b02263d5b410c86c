pub mod Moments
pub mod Sectors
mod Kept
mod Outcomes
