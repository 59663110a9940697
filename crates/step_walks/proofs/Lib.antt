-- That walks along courses come of statements one by one.
pub mod FlowLaws
pub mod StepLaws
pub mod StartLaws
pub mod FirstValueLaws
pub mod WrittenValues
pub mod WrittenLaws
mod Rows
