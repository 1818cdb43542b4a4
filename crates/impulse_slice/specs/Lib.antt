-- definitions
pub mod Noted
