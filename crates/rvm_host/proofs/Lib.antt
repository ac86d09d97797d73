mod Targets
mod Hearing
mod Settling
mod Sendings
pub mod Moves
mod Postings
pub mod Running
pub mod Retiring
pub mod Drying
mod Refused
mod Looks
pub mod Sends
