-- definitions
pub mod Complex
pub mod View
