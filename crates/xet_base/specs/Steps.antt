-- Words that only contracts inside the crate and proofs speak of.

pub mod Lanes
pub mod Probes
pub mod SearchSteps
