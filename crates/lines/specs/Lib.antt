pub use Rattle.case_text.specs.Faults
pub use Rattle.case_text.specs.Questions
pub use Rattle.case_text.specs.Digits
pub mod Beginnings
