pub mod Lines
pub mod NamedTrees
pub mod Naming
pub mod PrintedRuns
pub mod ScriptEnds
pub mod WrittenVersions
