pub mod Differing
pub mod InRows
pub mod Malformed
pub mod Marks
pub mod MergingSteps
pub mod SetsSteps
