-- Words that only proofs speak of, and contracts of this crate and of those above.

pub mod ChunkCuts
pub mod ChunkMerging
pub mod Gathering
pub mod PartFilling
pub mod PartOrder
pub mod SectionsSteps
pub mod SpansSteps
