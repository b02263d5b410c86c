pub mod AskingLemmas
pub mod ImageLemmas
pub mod MemoryEnds
