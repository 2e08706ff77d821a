pub mod PolicyLines
