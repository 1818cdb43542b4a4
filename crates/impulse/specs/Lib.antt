-- definitions
pub mod Machine
pub mod View
pub mod Running
pub mod Room
pub mod Circle
pub mod State
pub mod Sound
