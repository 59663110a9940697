pub mod Begins
pub mod Stand
