pub mod Options
pub mod ConstantsAndStates
pub mod NextAndInit
pub mod Translates
pub mod Headline
