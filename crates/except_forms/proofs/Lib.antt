-- A function that is changed at one argument, and the slots of an EXCEPT.
pub mod ChangeLaws
pub mod SlotLaws
