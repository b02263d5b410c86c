pub mod Cuts
pub mod Faults
pub mod Items
pub mod Progress
pub mod Reading
pub mod FileReads
pub mod Words
