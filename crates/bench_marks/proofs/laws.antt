-- the theorem
pub mod Lone
pub mod BenchMarks
-- closed cases
pub mod ImpulseCases
