-- Words that only laws speak of.
pub mod Printable
pub mod HoldsPrinted
pub mod BreaksFew
