pub mod Answered
pub mod ItemText
pub mod Words
pub mod Writes
