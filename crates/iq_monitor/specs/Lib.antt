-- definitions
pub mod Words
pub mod Observe
pub mod Hops
