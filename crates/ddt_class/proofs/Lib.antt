pub mod Splits
pub mod Totals
pub mod Classed
