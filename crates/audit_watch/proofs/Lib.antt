pub mod Watching
pub mod Later
