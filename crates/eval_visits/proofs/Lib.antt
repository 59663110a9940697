-- That the walk visits all choices, and what is gathered is the value.
pub mod VisitLemmas
pub mod WalkLemmas
pub mod SetLemmas
pub mod KeyLemmas
