pub mod Blocks
pub mod FitsLaws
