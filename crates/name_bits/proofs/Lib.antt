-- Why numbers and names are in the sets that are made.
mod OrderLaws
mod BitLaws
pub mod NameLaws
