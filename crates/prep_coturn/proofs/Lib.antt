pub mod Classes
pub mod Settings
