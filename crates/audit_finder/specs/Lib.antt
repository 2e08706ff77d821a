pub mod Found
pub mod Departures
