-- what is proved of the definitions
pub mod laws
-- laws that several functions' proofs cite
pub mod Places
