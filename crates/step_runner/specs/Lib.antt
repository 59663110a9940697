-- Constants, scripts and traces as files spell them, and what runs and traces print.
pub mod Fronts
pub mod Stretches
pub mod Items
pub mod Config
pub mod Script
pub mod Trace
pub mod Shown
pub mod StopLines
pub mod Followed
pub mod Explained
