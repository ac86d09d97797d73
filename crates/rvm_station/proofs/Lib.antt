pub mod Logs
pub mod Events
pub mod Logged
pub mod CellSends
pub mod Asked
pub mod StationSends
pub mod AllOf
pub mod Shown
pub mod Begins
pub mod Runs
pub mod Records
mod LogExamples
