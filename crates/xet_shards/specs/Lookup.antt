-- Single records, and runs of chunks, that are looked up.

pub mod Lookup
pub mod WrittenChunks
pub mod WrittenQueries
pub mod RunReading
