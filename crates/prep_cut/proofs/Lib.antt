pub mod Pairing
pub mod Marked
mod Going
mod Staying
mod Noting
mod Releases
mod Bounding
mod Heard
mod Adding
mod Keeping
