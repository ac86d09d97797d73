pub mod Numbers
pub mod Steps
pub mod Exact
pub mod EachLoop
pub mod Writing
pub mod Examples
