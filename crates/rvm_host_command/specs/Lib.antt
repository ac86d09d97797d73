pub mod Hosted
pub mod Live
pub mod Told
pub mod Looks
pub mod Lines
pub mod Answered
pub mod Processes
