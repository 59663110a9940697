pub mod ReadMembers
pub mod ReadBraces
pub mod ReadSquares
pub mod ReadListed
pub mod ReadExpression
pub mod ReadEnough
pub mod NumbersGiven
mod RowsForms
mod RowsNumbers
