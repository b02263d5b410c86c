pub mod Chains
pub mod Faults
pub mod Pointers
pub mod Readers
pub mod ChainWrites
