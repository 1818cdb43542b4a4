pub mod PutLaws
pub mod DigitLaws
pub mod LengthLaws
-- closed cases
pub mod Cases
