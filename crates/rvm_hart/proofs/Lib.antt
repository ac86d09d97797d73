pub mod Pages
pub mod Registers
pub mod Shape
pub mod Reserved
pub mod Whole
pub mod Still
pub mod Made
pub mod Strides
pub mod Running
pub mod Places
mod Examples
