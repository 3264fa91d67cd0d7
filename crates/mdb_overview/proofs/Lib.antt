pub mod Counting
pub mod OneShard
