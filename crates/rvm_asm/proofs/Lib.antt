pub mod Ends
mod Examples
pub mod Expressions
pub mod Lists
pub mod Parts
pub mod Shapes
pub mod Bytes
pub mod Claims
pub mod Faultless
pub mod Joined
pub mod Laying
pub mod Lines
pub mod Names
pub mod Order
pub mod Placed
pub mod Unique
