-- The action that is written for the step of a label, and Init and Next.
pub mod Assigned
pub mod Settled
pub mod Jumps
pub mod Written
pub mod Prepared
pub mod SingleProcess
pub mod WrittenNames
pub mod OwnVariables
pub mod LabelActions
pub mod ProcessSets
pub mod InitialFormulas
pub mod NextFormula
pub mod ModelValues
pub mod laws
