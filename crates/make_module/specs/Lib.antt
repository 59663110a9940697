-- The module that `make` writes.
pub mod Big
