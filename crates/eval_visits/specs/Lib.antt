-- The choices of members that a binder visits, what it gathers at them, and the value of that.
pub mod Gathered
pub mod GatheredOf
pub mod Visits
