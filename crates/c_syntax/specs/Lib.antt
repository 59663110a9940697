pub mod StatesRead
pub mod Closes
pub mod Takes
pub mod AfterRead
