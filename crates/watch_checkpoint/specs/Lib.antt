pub mod Content
pub mod Spelling
pub mod Fault
pub mod Words
pub mod Adding
pub mod Reading
pub mod Fits
