-- That what a name is found to stand for is what it means.
pub mod ScopeLemmas
pub mod ScopeLoops
pub mod ContextLemmas
pub mod NameLemmas
