pub mod Patterns
pub mod GuardLaws
