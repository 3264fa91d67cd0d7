pub mod AddedParts
pub mod Parts
pub mod RowNumbers
