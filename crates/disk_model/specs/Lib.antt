pub mod Accounts
pub mod Crashes
pub mod Faults
pub mod Images
pub mod Memory
pub mod MemoryLaws
pub mod Plans
pub mod DiskLaws
