-- What the contracts of this crate are said in.
pub mod Fitting
pub mod Added
pub mod Units
