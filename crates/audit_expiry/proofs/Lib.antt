pub mod Tables
pub mod Growth
pub mod Many
