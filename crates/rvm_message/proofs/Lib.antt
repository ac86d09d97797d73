pub mod Derived
pub mod Logs
pub mod Same
pub mod Dry
pub mod Refusing
