-- definitions
pub mod Places
pub mod Words
pub mod States
pub mod Typed
