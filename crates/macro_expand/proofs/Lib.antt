-- That counting once for each macro gives these sizes, and worked rows.
pub mod SumLaws
pub mod TreeSums
pub mod MeasureLaws
pub mod CountLaws
pub mod Rows
pub mod SizeLimits
