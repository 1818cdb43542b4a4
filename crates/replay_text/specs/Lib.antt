-- definitions
pub mod Notices
pub mod Text
