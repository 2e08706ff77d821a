pub mod Numerals
pub mod Fronts
pub mod SameFile
pub mod Dots
pub mod Padding
pub mod Earliest
pub mod Unique
