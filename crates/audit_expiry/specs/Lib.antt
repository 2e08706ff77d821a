pub mod Lease
pub mod Leases
pub mod Growth
