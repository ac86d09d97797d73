mod Current
pub mod Keeping
mod Happenings
mod NewWorlds
mod Runs
mod Places
pub mod NeverMoving
mod Drives
mod FirstRound
mod Sending
mod Opening
mod Moves
mod Endings
mod Stepping
mod Turning
pub mod EventExamples
mod LineExamples
mod Faults
mod Making
mod ScriptSteps
mod Running
pub mod Spending
mod Moving
mod ScriptExamples
pub mod Joined
pub mod Spelled
pub mod Lines
pub mod Reading
pub mod Scripts
