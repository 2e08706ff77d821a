mod Framing
mod Going
mod OfService
