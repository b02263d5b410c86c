pub mod SlotLaws
pub mod SlotPairs
