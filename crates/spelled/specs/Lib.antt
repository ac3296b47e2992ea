pub mod Faults
pub mod Whole
pub mod Reading
pub mod Spelling
