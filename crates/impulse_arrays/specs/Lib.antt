-- definitions
pub mod Fits
pub mod Occurs
