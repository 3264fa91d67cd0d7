-- Words that only proofs speak of, and contracts of this crate and of those above.

pub mod ChunkLookupSteps
pub mod Collecting
pub mod FileStore
pub mod JoiningSteps
pub mod KeyedExportSteps
pub mod LookupSteps
pub mod MinimalShardSteps
pub mod MinimalWriting
pub mod RunReadingSteps
pub mod RunSteps
pub mod SectionReadingSteps
pub mod TableReadingSteps
pub mod TablesSteps
pub mod TruncatedHashesSteps
pub mod XorbStoreSteps
