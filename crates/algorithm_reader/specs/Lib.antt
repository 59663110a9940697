pub mod PartsRead
pub mod SimpleRead
pub mod RoutinesRead
pub mod AnsweredRead
pub mod ListsRead
