pub mod Slices
pub mod LimitLaws
