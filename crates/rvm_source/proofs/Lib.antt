pub mod Frames
pub mod Sets
pub mod Copies
pub mod Turns
pub mod Losses
mod Refusing
mod Pieces
mod Sending
mod Sendings
mod Covering
