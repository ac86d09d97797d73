mod Examples
pub mod Lexing
pub mod Texts
