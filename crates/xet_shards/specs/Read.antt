-- Sections and tables that are read whole.

pub mod FileRanges
pub mod PlacedRecord
pub mod SectionReading
pub mod SectionWalk
pub mod SectionsBehindHeader
pub mod TableReading
pub mod TruncatedHashes
pub mod XorbHeaders
