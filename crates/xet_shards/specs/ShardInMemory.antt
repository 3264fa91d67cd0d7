-- Shards in memory.

pub mod InMemoryShard
pub mod XorbStore
pub mod ChunkLookup
pub mod ChunkQuery
