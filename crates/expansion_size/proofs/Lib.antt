-- That what is left at the end tells how large an algorithm is.
pub mod SpendLaws
pub mod GraftLaws
pub mod WrittenOut
pub mod FrameLaws
pub mod TreeLaws
pub mod SideLaws
pub mod StayLaws
pub mod MacroLaws
pub mod BodyLaws
pub mod AlgorithmLaws
