pub mod Allowed
pub mod Seating
