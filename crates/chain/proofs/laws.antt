pub mod SliceLaws
pub mod Processing
pub mod CallTests
pub mod Places
pub mod Keeping
