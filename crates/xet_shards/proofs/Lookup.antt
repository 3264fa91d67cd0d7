-- Single records, and runs of chunks, that are looked up.

pub mod StoredRecords
pub mod TableLookups
pub mod KnownRows
pub mod Distinct
pub mod Lookups
pub mod MapAnswers
pub mod ShardLookups
pub mod ChunkTables
pub mod ChunkLocations
pub mod Tries
pub mod Runs
pub mod RunsAt
pub mod StoredRuns
pub mod QueriesAt
pub mod WrittenRuns
pub mod WrittenQueries
