pub mod Records
pub mod UndoTests
pub mod UndoLaws
