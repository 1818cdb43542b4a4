pub mod FormatLaws
pub mod FrontLaws
pub mod HeaderLaws
