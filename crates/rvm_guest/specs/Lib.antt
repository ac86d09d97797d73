pub mod Pages
pub mod Valid
pub mod Values
pub mod Body
pub mod Pieces
pub mod Events
pub mod TheGuest
