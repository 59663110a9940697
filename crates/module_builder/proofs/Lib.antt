-- That what is built is the translation.
pub mod RegionsGrown
pub mod OwnLaws
pub mod DefinitionLaws
pub mod AcceptedLaws
pub mod RefusalLaws
pub mod OutsideGrown
