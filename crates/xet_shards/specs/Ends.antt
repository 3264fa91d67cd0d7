-- The header and the footer of a shard.

pub mod Ends
