-- That what has room is found.
pub mod Rows
pub mod Lists
pub mod DeepNodes
pub mod DeepRow
