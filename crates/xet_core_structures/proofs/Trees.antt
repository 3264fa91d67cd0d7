-- Trees of unions.

pub mod Sides
pub mod UnionTrees
pub mod MergeTrees
pub mod MappedJoins
pub mod TreeXorbs
pub mod TreesOfExports
pub mod SameTrees
