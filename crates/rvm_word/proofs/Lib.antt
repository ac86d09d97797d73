pub mod Casts
mod Examples
pub mod Signed
