pub mod Ascii
pub mod EventLine
pub mod Exposition
pub mod Metrics
