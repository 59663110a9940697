pub mod StatesRead
pub mod StepsRead
