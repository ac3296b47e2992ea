pub mod Spells
pub mod Sums
