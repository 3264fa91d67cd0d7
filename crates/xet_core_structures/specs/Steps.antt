-- Words that only proofs speak of, and contracts of this crate and of those above.

pub mod ByteResultsSteps
pub mod MergeJoin
pub mod MixedFiles
pub mod RecordPairsSteps
pub mod SetOutcomesSteps
pub mod ShardContentsSteps
pub mod StreamsSteps
