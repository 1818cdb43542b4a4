-- definitions
pub mod View
