-- definitions
pub mod Found
