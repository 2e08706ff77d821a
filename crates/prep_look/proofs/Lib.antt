pub mod ByAddress
