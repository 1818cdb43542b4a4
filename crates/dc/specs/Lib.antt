-- definitions
pub mod Blocker
pub mod Undo
