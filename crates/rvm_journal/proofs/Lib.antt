pub mod Runs
pub mod Lines
pub mod Adding
pub mod Keeping
pub mod Recorders
pub mod Replayed
pub mod ReadJournals
pub mod Pieces
pub mod Reading
mod HeaderExamples
