pub mod Walks
pub mod Kept
pub mod AlgorithmEnd
pub mod Outsides
pub mod Swaps
pub mod WritableRegion
pub mod PlacelessRegion
pub mod ItemPlaces
