-- definitions
pub mod View
pub mod Series
