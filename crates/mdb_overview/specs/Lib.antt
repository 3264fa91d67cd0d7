pub mod Counts
pub mod Escapes
pub mod OverviewExpiries
pub mod Sharing
pub mod Totals
