pub mod Finding
pub mod Calling
pub mod Walking
pub mod Keeping
pub mod Routines
pub mod Whole
