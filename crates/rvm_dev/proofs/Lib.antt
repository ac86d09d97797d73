pub mod Harts
pub mod Registers
pub mod Examples
