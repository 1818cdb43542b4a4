-- definitions
pub mod Words
