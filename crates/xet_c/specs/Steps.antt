-- Words that only contracts inside the crate and proofs speak of.

pub mod ShownMerges
