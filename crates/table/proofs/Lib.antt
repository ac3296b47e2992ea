pub mod Good
pub mod Listed
pub mod Opened
