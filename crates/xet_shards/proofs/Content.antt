-- What a shard is: finite maps, and what union, difference, join and keys make of them.

pub mod Maps
pub mod Found
pub mod Overlays
pub mod Unions
pub mod Joins
pub mod AgreeingJoins
pub mod Joining
pub mod MappedMaps
pub mod MappedShards
pub mod KeyedHashes
pub mod KeyedShards
pub mod FilesWithoutAux
pub mod ShardsWithoutAux
pub mod Names
