-- what is proved of the definitions
pub mod laws
-- laws that several functions' proofs cite
pub mod Turns
pub mod Limit
pub mod Products
pub mod Pairs
pub mod Strength
