-- definitions
pub mod Config
