pub mod Sectors
pub mod Book
pub mod Lanes
