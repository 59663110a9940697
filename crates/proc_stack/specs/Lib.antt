-- What the contracts of this crate are said in.
pub mod Made
pub mod Moves
pub mod Pieces
pub mod Saving
