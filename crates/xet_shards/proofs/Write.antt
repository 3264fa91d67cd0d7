-- The bytes of a shard: sections, tables and the whole layout.

pub mod StoredParts
pub mod Sections
pub mod Layouts
pub mod RowOrder
pub mod XorbLayouts
pub mod Tables
pub mod Ranges
pub mod TableOrder
pub mod ChunkTableRows
pub mod ChunkSorting
pub mod WrittenTables
pub mod Written
pub mod Puts
pub mod Copying
pub mod Collecting
pub mod WithOptions
pub mod SameBytes
pub mod Worked
