pub mod OutsideAt
pub mod FoundAt
pub mod WholeAt
pub mod Fronts
pub mod Passing
pub mod ModulesIn
pub mod SightIn
pub mod KeptOf
