mod RowsShape
pub mod ShapeLemmas
pub mod MakeLemmas
pub mod ElementLemmas
pub mod DepthLemmas
pub mod QuoteLemmas
pub mod ViewLemmas
pub mod AheadLemmas
pub mod PlaceLemmas
