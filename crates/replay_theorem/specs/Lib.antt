-- definitions
pub mod Replay
