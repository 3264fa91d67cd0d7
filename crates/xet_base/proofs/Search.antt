-- A sorted table of rows, and the search for those of a key.

pub mod Tables
pub mod KnownTable
pub mod Steps
pub mod Progress
pub mod Quarter
pub mod Probing
pub mod Course
pub mod Even
pub mod Collecting
pub mod Turns
pub mod Bounds
pub mod Worked
