pub mod Assembly
pub mod Runs
