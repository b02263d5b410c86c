pub mod Bytes
pub mod KeyLaws
pub mod Parts
pub mod RecordLaws
