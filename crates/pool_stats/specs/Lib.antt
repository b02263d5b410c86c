pub mod References
pub mod Counts
pub mod Totals
