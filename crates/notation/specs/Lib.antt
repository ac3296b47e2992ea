pub mod Parts
pub mod Numerals
pub mod Entries
pub mod Calls
pub mod Tokens
