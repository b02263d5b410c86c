pub mod Opening
pub mod Untold
pub mod UntoldLaws
