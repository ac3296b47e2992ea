pub mod Listed
pub mod Opened
pub mod Pairs
pub mod Triples
