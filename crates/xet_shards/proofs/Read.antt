-- Sections and tables that are read whole.

pub mod Readback
pub mod SectionReading
pub mod SectionWalks
pub mod SectionHashes
pub mod SectionUnique
pub mod SectionsOfBytes
pub mod WholeSections
pub mod TableReading
pub mod FileRanges
pub mod TruncatedHashes
pub mod Zipped
