pub mod Plain
pub mod Padding
pub mod Texts
pub mod Ruled
