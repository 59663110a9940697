pub mod Rewritten
pub mod Rewrites
pub mod laws
