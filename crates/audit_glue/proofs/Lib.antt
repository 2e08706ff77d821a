pub mod Oks
pub mod Jobs
