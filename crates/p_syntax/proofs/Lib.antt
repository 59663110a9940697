mod RowsForms
pub mod Nested
pub mod Grows
pub mod Steps
pub mod Sequences
pub mod MainParts
pub mod Texts
pub mod SimpleSound
pub mod Closed
pub mod Endings
pub mod NextStatement
pub mod AfterStatement
