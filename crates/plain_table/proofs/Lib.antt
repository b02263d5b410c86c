pub mod HomeLists
pub mod Entries
pub mod Undo
pub mod Replayed
pub mod NextLogs
pub mod Laid
