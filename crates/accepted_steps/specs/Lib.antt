-- The laws on steps of accepted algorithms, as statements.
pub mod AcceptedSteps
pub mod StartedStates
