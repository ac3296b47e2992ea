pub mod Verbs
pub mod Answers
pub mod Steps
pub mod Fills
pub mod Texts
