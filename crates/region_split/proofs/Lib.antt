pub mod RegionInside
pub mod RegionPlaces
pub mod PartsFound
