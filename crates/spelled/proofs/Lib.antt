pub mod Runs
pub mod Readings
pub mod Places
pub mod Laws
pub mod Unique
pub mod Lines
