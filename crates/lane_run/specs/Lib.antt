pub mod Going
pub mod Groups
pub mod Live
