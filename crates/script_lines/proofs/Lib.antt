pub mod Commands
pub mod Flags
pub mod HexBytes
pub mod SpelledHashes
pub mod Splitting
pub mod Trees
