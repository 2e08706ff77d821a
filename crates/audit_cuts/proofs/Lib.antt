pub mod Absolute
pub mod OneCut
pub mod Pushed
