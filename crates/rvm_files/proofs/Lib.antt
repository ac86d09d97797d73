pub mod Checks
pub mod Lines
pub mod OneMore
pub mod Pieces
pub mod Reading
pub mod Told
