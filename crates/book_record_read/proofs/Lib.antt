pub mod RecordParts
pub mod Standing
pub mod Steps
