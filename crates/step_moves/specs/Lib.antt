-- Words in which the contracts of this crate are said.
pub mod Prepared
pub mod Runners
pub mod ScopeIn
pub mod PartsOf
pub mod StatesOf
pub mod Programs
pub mod Sights
pub mod InMemory
