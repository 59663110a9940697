-- That the lines that are appended one by one are those of the module, and that a map has a line for each label.
pub mod LabelCounts
pub mod LineSteps
