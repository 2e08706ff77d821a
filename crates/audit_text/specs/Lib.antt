pub mod Token
pub mod Lines
pub mod Reading
pub mod Readers
