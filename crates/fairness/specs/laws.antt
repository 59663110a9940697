-- The words in which the law is stated.
pub mod LinesOfObligations
