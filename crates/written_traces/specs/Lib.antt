-- Initial states told by the written names, and traces that are explained by them.
pub mod AskedStarts
pub mod WrittenTraces
