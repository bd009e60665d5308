pub mod RecordParts
