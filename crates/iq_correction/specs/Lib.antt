-- definitions
pub mod Groups
pub mod Undo
pub mod Calls
