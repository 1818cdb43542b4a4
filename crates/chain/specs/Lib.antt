-- definitions
pub mod Stages
pub mod Calls
