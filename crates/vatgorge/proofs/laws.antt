pub mod Says
pub mod ConfigAgain
pub mod CallAfter
pub mod Telling
