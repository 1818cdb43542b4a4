-- definitions
pub mod Making
