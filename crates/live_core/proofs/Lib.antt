pub mod Counting
pub mod Goes
pub mod Growing
pub mod Keeping
pub mod Leading
pub mod Numbering
pub mod Recording
