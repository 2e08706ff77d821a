pub mod Snoc
pub mod ShapesGrown
pub mod Written
pub mod Going
