-- That what is evaluated is what an expression means.
pub mod WorkLemmas
pub mod CaseLemmas
pub mod EvalLemmas
pub mod LocalLemmas
