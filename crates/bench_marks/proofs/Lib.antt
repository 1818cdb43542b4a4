-- what is proved
pub mod laws
