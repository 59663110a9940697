-- That what is outside is read whole and exactly.
pub mod BodyLaws
pub mod DefinitionLaws
pub mod UnitSteps
pub mod FoundLaws
pub mod FoundSteps
pub mod OutsideLaws
pub mod KeptLaws
pub mod FrontLaws
pub mod NameLaws
pub mod UnitLaws
pub mod PassedLaws
pub mod ModuleLaws
pub mod SightLaws
pub mod DepthLaws
