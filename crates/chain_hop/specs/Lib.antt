-- definitions
pub mod Hops
pub mod HopReady
