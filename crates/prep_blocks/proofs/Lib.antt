pub mod Holding
pub mod Splitters
