pub mod Frame
pub mod Reading
pub mod Spelled
pub mod Headers
pub mod View
