-- Trees of unions.

pub mod MergeTrees
pub mod ExportTrees
