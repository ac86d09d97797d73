pub mod Gets
pub mod Steps
pub mod Moves
pub mod Heard
pub mod Runs
pub mod Law
pub mod Greatest
pub mod Explanations
pub mod Same
pub mod Guests
pub mod Examples
mod ExamplesOfCuts
pub mod Spellings
pub mod Pasts
pub mod Stretched
pub mod Commands
pub mod Merges
pub mod Taken
pub mod Behind
pub mod Parts
pub mod Lists
pub mod Passages
pub mod Kept
pub mod Passed
pub mod Outlined
pub mod OrderLines
mod Pieces
pub mod Two
mod Keys
