pub mod AnyOrder
pub mod Differences
pub mod Groups
pub mod Keys
pub mod Ranges
pub mod Reopened
pub mod Unions
pub mod Written
