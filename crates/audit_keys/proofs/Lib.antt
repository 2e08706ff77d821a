pub mod Pads
pub mod Keyrings
pub mod CredTexts
pub mod Before
