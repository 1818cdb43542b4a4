-- definitions
pub mod Undoing
