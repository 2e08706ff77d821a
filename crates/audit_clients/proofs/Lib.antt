mod Joining
mod Kept
mod Places
