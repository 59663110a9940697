-- Lemmas for the contracts of this crate.
pub mod BranchLaws
pub mod DeskLaws
pub mod FarLaws
pub mod FirstLaws
pub mod ListLaws
pub mod ListSteps
pub mod ResultLaws
pub mod RowLaws
pub mod RowSteps
pub mod SideLaws
pub mod WeightLaws
pub mod WholeLaws
pub mod WithLaws
pub mod WritesLaws
mod AssignmentLaws
mod MoveLaws
mod CallLaws
mod PartnerLaws
mod SimpleLaws
