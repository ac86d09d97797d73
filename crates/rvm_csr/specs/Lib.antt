pub mod Cause
pub mod Registers
pub mod Table
pub mod Traps
pub mod Counters
pub mod File
pub mod Fields
