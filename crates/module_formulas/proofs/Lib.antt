-- Lemmas for the contracts of this crate.
pub mod Grown
pub mod Behind
mod LabelLists
mod StartLaws
mod UnsetLaws
mod RoutineLaws
mod WayLaws
