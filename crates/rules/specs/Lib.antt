-- definitions
pub mod Constants
pub mod Lists
pub mod Sort
pub mod Mode
pub mod Guard
pub mod Pauses
pub mod Impulse
pub mod Dc
pub mod Iq
pub mod Log
pub mod Monitor
pub mod Undo
pub mod Refusals
pub mod Answers
pub mod Chain
