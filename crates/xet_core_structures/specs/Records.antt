-- What bytes hold as lists of records, and what a union makes of two lists.

pub mod ShardContents
pub mod RecordPairs
pub mod ByteUnion
pub mod Equality
pub mod Sizes
