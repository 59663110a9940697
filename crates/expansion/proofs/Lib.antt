-- That what is written is the expansion.
pub mod PutTwice
pub mod MacroLaws
pub mod BodyLaws
pub mod AlgorithmLaws
