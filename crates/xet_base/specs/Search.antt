-- A sorted table of rows, and the search for those of a key.

pub mod Table
