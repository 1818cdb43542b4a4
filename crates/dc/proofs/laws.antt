pub mod Clamp
pub mod Steps
pub mod Runs
pub mod UndoLaws
pub mod Cutting
