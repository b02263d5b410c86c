mod Counting
pub mod Rising
