pub mod Rings
pub mod Shapes
pub mod Stamped
pub mod Counted
pub mod Joining
pub mod Joined
