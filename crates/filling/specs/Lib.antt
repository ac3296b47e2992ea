pub mod Numbers
pub mod Progress
pub mod Causes
pub mod Filling
pub mod Runs
pub mod Tables
