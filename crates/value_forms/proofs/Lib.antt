-- That what operators make of values in memory is within the limits exactly where the code says so.
pub mod PartLaws
pub mod Rows
pub mod MergeLaws
pub mod StopLaws
pub mod UnionLaws
pub mod RangeLaws
