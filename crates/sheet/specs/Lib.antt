pub mod Trees
pub mod Numbers
pub mod Entries
pub mod Limits
pub mod Plain
pub mod Questions
pub mod Forms
