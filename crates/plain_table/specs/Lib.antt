pub mod HomeLists
pub mod Keyed
pub mod Logged
pub mod Tables
pub mod Merging
