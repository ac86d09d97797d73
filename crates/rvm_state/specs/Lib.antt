pub mod Formats
pub mod Spelling
pub mod Writing
pub mod Refusals
