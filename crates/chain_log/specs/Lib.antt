-- definitions
pub mod Reading
