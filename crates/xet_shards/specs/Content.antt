-- What a shard is: finite maps, and what union, difference, join and keys make of them.

pub mod Shard
pub mod SetOperations
pub mod Joins
pub mod Joining
pub mod KeyedShards
pub mod ShardsWithoutAux
pub mod Names
