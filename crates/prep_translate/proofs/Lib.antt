pub mod Going
mod Renamed
