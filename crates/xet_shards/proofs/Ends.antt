-- The header and the footer of a shard.

pub mod Ends
pub mod EndsUnique
pub mod Widths
pub mod Versions
pub mod Loading
