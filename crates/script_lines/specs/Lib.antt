pub mod Commands
pub mod Printed
pub mod TreeWords
pub mod Words
