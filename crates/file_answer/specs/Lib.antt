pub mod Refusals
pub mod Spelling
pub mod Holds
pub mod laws
pub mod Checking
pub mod Mapped
