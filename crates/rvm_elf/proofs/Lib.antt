mod Examples
pub mod Headers
pub mod Faults
pub mod Ranges
pub mod Blank
pub mod Placing
pub mod Loaded
pub mod Writing
pub mod ReadBack
