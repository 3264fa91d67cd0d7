pub mod Earliest
pub mod Zipped
