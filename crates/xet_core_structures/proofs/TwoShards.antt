-- Union and difference of two shards, whose sections are read side by side.

pub mod MergeJoin
pub mod Mixing
pub mod MixWriting
pub mod OneSection
pub mod Pairs
pub mod Refusals
pub mod Results
pub mod SetOperationSteps
pub mod UnitedFiles
pub mod Readable
pub mod InMemory
