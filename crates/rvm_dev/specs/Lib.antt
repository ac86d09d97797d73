pub mod Map
pub mod Devices
pub mod Fields
pub mod Shared
