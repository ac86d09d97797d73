pub mod StepRuns
pub mod Spans
pub mod InRounds
pub mod Replays
pub mod Retired
pub mod Slices
pub mod Slicing
pub mod Sends
pub mod Kept
mod Examples
pub mod Receipts
pub mod Runs
pub mod ReceiptSpans
pub mod Checks
pub mod Tellings
pub mod RoundsTold
pub mod SharedSends
pub mod Flat
