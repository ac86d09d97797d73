mod Sends
mod LinesRead
pub mod Answered
mod Examples
pub mod Told
pub mod Looking
pub mod Hosted
mod Living
pub mod Walks
pub mod Law
mod WorkedProcesses
