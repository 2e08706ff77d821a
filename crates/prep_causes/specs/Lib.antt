pub mod Causing
pub mod Slots
pub mod Carrying
pub mod Adding
pub mod Numbers
pub mod Groups
