-- definitions
pub mod Printing
