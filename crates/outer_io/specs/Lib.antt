-- The definitions that contracts cite.
pub mod Outer
pub mod Memory
