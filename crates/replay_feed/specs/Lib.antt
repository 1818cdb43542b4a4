-- definitions
pub mod Feeding
