-- definitions
pub mod Ordered
pub mod Ordering
pub mod Rising
