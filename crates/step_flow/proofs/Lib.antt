-- Lemmas of this crate.
pub mod PlaceLists
pub mod FlowLaws
pub mod CallLaws
pub mod ChosenLaws
pub mod ListLaws
pub mod BindLaws
