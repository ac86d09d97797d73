pub mod Policies
pub mod Plans
pub mod Ties
pub mod Coverage
