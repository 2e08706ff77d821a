pub mod Finding
pub mod Proved
pub mod Refusals
pub mod Refused
pub mod Scanning
