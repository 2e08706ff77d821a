pub mod Read
pub mod Splitting
