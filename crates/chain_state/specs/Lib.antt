-- definitions
pub mod Fits
pub mod Causes
pub mod Changed
