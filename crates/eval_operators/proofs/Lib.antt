-- Sets that are tested by their members.
pub mod ListedLemmas
