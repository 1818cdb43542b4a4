-- what is proved of the definitions
pub mod laws
