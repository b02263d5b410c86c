pub mod Folds
pub mod Forms
pub mod Prunes
