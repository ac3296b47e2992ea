pub mod Format
pub mod Slots
pub mod Opening
pub mod Sides
