pub mod Run
pub mod Verdicts
