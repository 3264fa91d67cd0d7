-- What bytes hold as lists of records, and what a union makes of two lists.

pub mod ShardContents
pub mod ListMaps
pub mod Lists
pub mod RecordPairs
pub mod RecordsAsRead
pub mod SmallerShards
pub mod ByteUnions
pub mod SectionWays
pub mod OneResult
