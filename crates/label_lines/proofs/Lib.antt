-- That the lines of labels are those that are defined.
pub mod LineLaws
