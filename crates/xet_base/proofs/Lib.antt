pub mod Bytes
pub mod Errors
pub mod Ghost
pub mod HashMaps
pub mod HashOrder
pub mod Hex
pub mod HexText
pub mod Lists
pub mod Reading
pub mod Search
pub mod Searching
pub mod Worked
mod Lanes
pub mod KeyedHash
pub mod Blake3
