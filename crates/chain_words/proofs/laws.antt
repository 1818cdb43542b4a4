pub mod Rings
pub mod Again
