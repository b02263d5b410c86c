pub mod Ring
pub mod Seals
pub mod Spelling
pub mod RingWrites
