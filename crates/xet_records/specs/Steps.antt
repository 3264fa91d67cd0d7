-- Words that only contracts inside the crate and proofs speak of.

pub mod CopyingSteps
pub mod FileRecordSteps
pub mod ViewReadingSteps
pub mod ViewSteps
