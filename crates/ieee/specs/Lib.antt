-- definitions
pub mod Root
pub mod Whole
pub mod Normal
pub mod Narrow
pub mod Bound
pub mod Plain
