pub mod Contents
pub mod Opening
pub mod Unders
