pub mod Numbers
pub mod Codec
pub mod Format
pub mod Exact
