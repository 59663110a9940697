-- What the evaluator promises, and how much there is for it to do.
pub mod Parts
pub mod Work
