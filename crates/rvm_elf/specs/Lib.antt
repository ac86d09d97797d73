pub mod File
pub mod Load
pub mod Placing
pub mod Spelling
pub mod Refusals
