-- Shards in memory.

pub mod Files
pub mod FileUnions
pub mod Xorbs
pub mod Sums
pub mod Walks
pub mod Clones
pub mod ChunkLookups
pub mod ChunkQueries
