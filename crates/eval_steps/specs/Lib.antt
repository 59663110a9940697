-- Parts of forms, and what the left side of a connective decides alone.
pub mod Forms
