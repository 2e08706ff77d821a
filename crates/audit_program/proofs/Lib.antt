pub mod Following
pub mod Reading
pub mod Earliest
pub mod Naming
