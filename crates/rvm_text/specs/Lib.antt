pub mod Bytes
pub mod Lexemes
pub mod Numbers
pub mod Registers
pub mod Strings
pub mod Tokens
pub mod Refusals
