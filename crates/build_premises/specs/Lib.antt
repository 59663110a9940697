-- What builders of written steps are given of an accepted algorithm.
pub mod Everywhere
pub mod Buildable
