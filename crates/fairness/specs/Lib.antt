-- What Spec demands of fair steps: obligations, and a formula for each.
pub mod MarkedLabels
pub mod ReachedProcedures
pub mod Demands
pub mod Obligations
pub mod FairnessLines
pub mod laws
