-- Functions by their pairs, and sequences by their elements.
pub mod FunctionLaws
pub mod SequenceLaws
pub mod NumberedLaws
pub mod JoiningLaws
