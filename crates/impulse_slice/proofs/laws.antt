pub mod NotesLaws
pub mod MoveLaws
pub mod StageLaws
pub mod NotedRings
