-- Minimal shards.

pub mod FileStarts
pub mod MinimalShard
pub mod MinimalReading
pub mod MinimalWriting
pub mod MinimalLaws
