pub mod Records
pub mod TwoShards
pub mod Trees
pub mod LawProofs
