pub use Rattle.byteorder.specs.Endian
pub mod Bytes
pub mod Pages
pub mod Others
pub mod Rows
