-- laws that several functions' proofs cite
pub mod Places
pub mod Sizes
pub mod Blends
pub mod Quiet
