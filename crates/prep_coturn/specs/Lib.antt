pub mod Names
pub mod Confs
pub mod Plans
pub mod PolicyLines
pub mod Rows
