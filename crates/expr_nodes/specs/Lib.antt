pub mod ViewSeen
pub mod ShapeOf
pub mod ReadIn
pub mod Ahead
pub mod Subscripts
