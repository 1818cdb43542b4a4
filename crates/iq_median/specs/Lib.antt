-- definitions
pub mod Select
