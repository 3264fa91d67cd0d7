-- Words that only contracts inside the crate and proofs speak of.

pub mod CheckingSteps
pub mod WalkingSteps
