pub mod Sources
pub mod States
pub mod Bounds
pub mod Turns
pub mod Retiring
pub mod Quiet
pub mod Looks
