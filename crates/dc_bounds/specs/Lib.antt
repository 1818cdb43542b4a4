-- definitions
pub mod Undone
