-- bounds of the norm, the level and what is written
pub mod NormBounds
pub mod LevelBounds
-- how close the undo comes
pub mod Cases
pub mod PartUndone
pub mod DcUndone
