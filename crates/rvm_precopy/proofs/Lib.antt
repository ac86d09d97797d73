pub mod Coverage
pub mod Lowest
pub mod Scans
pub mod Ties
pub mod Spent
