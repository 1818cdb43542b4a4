-- definitions
pub mod View
pub mod Ready
pub mod Check
