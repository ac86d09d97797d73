mod Tests
mod Values
pub mod Joined
pub mod Staying
pub mod Bodies
pub mod Pieces
pub mod Turns
pub mod TheGuest
mod Examples
