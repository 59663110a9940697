pub mod ReadForms
pub mod Numbers
pub mod ReadTrees
