-- How large an algorithm is with its macro calls written out.
pub mod Measured
pub mod Size
pub mod TooLarge
pub mod laws
