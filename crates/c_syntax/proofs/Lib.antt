mod RowsAfter
pub mod EndsOne
pub mod Ending
pub mod Taking
pub mod Steps
pub mod NextStatement
pub mod OrAfter
pub mod AfterStatement
pub mod Sequences
pub mod MainBlock
pub mod Texts
