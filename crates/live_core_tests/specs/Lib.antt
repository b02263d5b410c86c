pub mod Groups
pub mod Seated
