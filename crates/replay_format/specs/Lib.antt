-- definitions
pub mod Format
pub mod Header
