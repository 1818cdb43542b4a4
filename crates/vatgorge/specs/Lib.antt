-- definitions
pub mod Codes
pub mod Config
pub mod Make
pub mod Condition
pub mod Hop
pub mod Log
pub mod Span
pub mod Undo
pub mod Stages
pub mod Recording
