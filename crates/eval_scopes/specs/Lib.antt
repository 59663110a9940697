-- What names stand for in code that evaluates expressions, and values that are at hand.
pub mod HeldOf
pub mod Choices
pub mod Scopes
pub mod Contexts
