-- definitions
pub mod Limit
