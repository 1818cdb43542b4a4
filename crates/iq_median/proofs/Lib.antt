-- laws that several functions' proofs cite
pub mod Lists
pub mod Selecting
pub mod Signs
