pub mod Values
pub mod Cuts
pub mod Splits
pub mod Counts
pub mod Backs
