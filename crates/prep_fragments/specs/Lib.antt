pub mod Parts
pub mod Wholes
pub mod Opens
pub mod Reassembling
