-- What an EXCEPT does, slot by slot.
pub mod Changes
