pub mod Judging
pub mod Offences
pub mod Sheets
pub mod Verdicts
