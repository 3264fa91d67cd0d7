pub mod Content
pub mod ShardInMemory
pub mod Ends
pub mod Write
pub mod Read
pub mod Lookup
pub mod Export
pub mod StreamingShard
