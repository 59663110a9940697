-- What reading an algorithm's tokens answers.
pub mod AlgorithmRead
