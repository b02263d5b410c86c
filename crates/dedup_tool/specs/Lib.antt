pub mod Asking
pub mod Ending
pub mod Image
pub mod Opened
pub mod Serving
