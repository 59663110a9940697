pub mod WritingLemmas
pub mod RowsWriting
pub mod OneMore
pub mod AheadLemmas
