pub mod BlockLaws
pub mod Replayed
