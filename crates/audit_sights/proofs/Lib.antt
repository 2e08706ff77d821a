mod Places
mod Lookups
mod Quarters
