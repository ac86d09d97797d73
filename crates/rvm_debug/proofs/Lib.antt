pub mod Reading
pub mod Running
pub mod Writing
mod Examples
