pub mod Concatenation
pub mod Spans
pub mod Steps
