pub mod Bar
pub mod PageBytes
pub mod FileFindings
pub mod Reading
pub mod Fitting
