-- What the contracts of this crate are said in.
pub mod Expressions
pub mod FramesStay
