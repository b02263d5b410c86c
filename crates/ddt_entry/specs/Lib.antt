pub mod Bytes
pub mod Changes
pub mod Keys
pub mod Records
pub mod Spelling
