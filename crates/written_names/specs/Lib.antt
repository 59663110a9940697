pub mod Giving
pub mod Units
