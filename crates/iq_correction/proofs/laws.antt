pub mod Steps
pub mod Maps
pub mod Cutting
pub mod UndoLaws
pub mod GroupLaws
pub mod GroupRuns
