pub mod Ended
pub mod Performed
pub mod Words
