pub mod HasRead
pub mod MayRead
