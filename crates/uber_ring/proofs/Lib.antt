pub mod Digests
pub mod Gates
pub mod SealLaws
pub mod RingLaws
pub mod Told
pub mod Newest
pub mod Written
