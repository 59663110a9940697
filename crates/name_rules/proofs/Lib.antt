-- That names are right, or the first that is wrong.
pub mod WholeLaws
mod JoinLaws
mod CoverLaws
mod TellLaws
mod TreeLaws
mod CallLaws
mod BodyLaws
mod KeepLaws
mod RoutineLaws
mod Rows
