pub mod Slots
pub mod Maps
