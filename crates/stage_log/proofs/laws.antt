pub mod RingNumbers
pub mod LogLaws
pub mod CheckLaws
