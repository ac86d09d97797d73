pub mod Words
pub mod HexBytes
pub mod Lines
pub mod Answers
pub mod Script
pub mod Runs
