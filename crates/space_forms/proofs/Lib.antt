-- That all subsets are listed, and where they are too many; that all functions of a space are, and how many they are.
pub mod SubListLaws
pub mod SubsetCount
pub mod MemberLaws
pub mod SpaceLaws
pub mod RecordLaws
