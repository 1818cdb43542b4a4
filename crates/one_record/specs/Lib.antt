-- definitions
pub mod Rings
pub mod Lists
pub mod Undone
