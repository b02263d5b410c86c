pub mod KeyInsertions
