-- definitions
pub mod Starting
