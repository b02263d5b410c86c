pub mod Lists
pub mod Steps
pub mod Acting
pub mod Ends
pub mod Seating
pub mod Gathers
