pub mod RecordLines
pub mod RecordReports
