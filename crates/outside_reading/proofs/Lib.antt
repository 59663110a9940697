-- That reading as code reads is exact.
pub mod TreeDepths
pub mod PlainRead
pub mod OutsideFound
pub mod Earlier
pub mod SmallNumbers
pub mod LargeNumbers
