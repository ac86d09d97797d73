pub mod Words
pub mod Examples
