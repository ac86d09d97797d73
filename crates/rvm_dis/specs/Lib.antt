pub mod Pieces
pub mod Texts
pub mod Disassembly
pub mod Assembles
pub mod Reassembly
