pub mod WordsLaws
pub mod ObserveLaws
pub mod Evidence
pub mod WordBounds
