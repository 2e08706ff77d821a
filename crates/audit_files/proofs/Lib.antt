pub mod Fed
pub mod SideBySide
pub mod Audited
pub mod Refusing
pub mod FirstFaults
