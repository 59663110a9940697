-- What comes of statements, and of declarations, by the choices that are left.
pub mod Flows
pub mod StepFlows
pub mod FirstValues
pub mod StartFlows
pub mod WrittenCalls
pub mod WrittenFlows
pub mod laws
