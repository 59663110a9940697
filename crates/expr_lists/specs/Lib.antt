pub mod Routed
pub mod InSquares
