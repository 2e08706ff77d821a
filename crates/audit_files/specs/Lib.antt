pub mod CaptureFaults
pub mod Captures
pub mod CertificateTexts
pub mod Ends
pub mod Judged
pub mod Pieces
pub mod Refusals
pub mod Stops
