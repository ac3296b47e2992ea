pub mod Cuts
pub mod Decoding
pub mod Lines
