pub mod Counting
pub mod Noting
pub mod Reports
pub mod Spelling
pub mod Writing
