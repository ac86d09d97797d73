mod Examples
pub mod Hex
pub mod Reading
pub mod Numbers
pub mod Operands
pub mod Lines
pub mod RoundTrip
mod ReassemblyExamples
pub mod Pieces
pub mod Org
pub mod Assembled
