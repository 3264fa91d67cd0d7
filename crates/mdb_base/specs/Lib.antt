pub mod Expiries
pub mod Keys
pub mod MergeOutcomes
pub mod Status
pub mod Writing
