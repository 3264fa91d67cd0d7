-- What joins several calls.

pub mod ByteLaws
pub mod UnionSizes
pub mod ExportTrees
pub mod FileLookups
pub mod MinimalAgain
