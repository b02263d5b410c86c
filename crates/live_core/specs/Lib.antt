pub mod Bases
pub mod Cores
pub mod Events
pub mod Moves
pub mod Runs
pub mod Tables
pub mod Views
pub mod Worked
