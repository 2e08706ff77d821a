pub mod Judged
pub mod EveryOrder
