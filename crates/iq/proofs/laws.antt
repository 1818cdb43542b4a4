pub mod Tests
pub mod Settling
pub mod Series
