-- Minimal shards.

pub mod MinimalShard
pub mod MinimalReading
