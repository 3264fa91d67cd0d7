pub mod Repeated
pub mod Written
