pub mod Faults
pub mod Questions
pub mod Digits
pub mod Refusals
pub mod Texts
