pub mod Exact
pub mod Fits
pub mod Lengths
pub mod Reading
pub mod Writing
pub mod Wrote
