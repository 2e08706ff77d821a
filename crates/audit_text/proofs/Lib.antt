pub mod Cuts
pub mod Numbers
pub mod Broken
pub mod Readings
pub mod Standing
pub mod Keeping
