-- The bytes of a shard: sections, tables and the whole layout.

pub mod Layout
pub mod Puts
pub mod RaisedRows
pub mod RecordCopying
pub mod Section
pub mod ShardEnd
pub mod Tables
pub mod WithOptions
pub mod Written
pub mod WrittenLaws
pub mod WrittenShard
