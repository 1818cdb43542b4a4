pub mod HopLaws
pub mod HopKeeps
