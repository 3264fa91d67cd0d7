-- Union and difference of two shards, whose sections are read side by side.

pub mod ByteResults
pub mod Readable
pub mod SetOutcomes
pub mod Streams
