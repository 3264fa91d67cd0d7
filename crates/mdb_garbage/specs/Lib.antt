pub mod CollectedRanges
pub mod Garbage
pub mod Order
pub mod Reports
pub mod Steps
