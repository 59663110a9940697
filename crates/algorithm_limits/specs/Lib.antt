pub mod Counting
pub mod LabelNames
pub mod LabelsIn
pub mod Literals
pub mod Numbers
pub mod ChainsIn
pub mod DepthsIn
pub mod ReadOffences
