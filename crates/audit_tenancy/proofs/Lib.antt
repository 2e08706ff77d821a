pub mod Addresses
pub mod Longest
pub mod Keeping
pub mod Found
pub mod Passing
pub mod Sorting
