-- That the laws of values and of meaning hold, and worked rows.
pub mod Outcomes
pub mod OrderSets
pub mod OrderFuns
pub mod SetOf
pub mod ValueLists
pub mod Lookups
pub mod Searched
pub mod InOrder
pub mod ValueSpelled
pub mod Fits
pub mod ValueWithin
pub mod ValueReader
pub mod ValueOnce
pub mod ValueDecided
pub mod ValueStrings
pub mod ValueCut
mod ValueRows
mod RowsSeen
mod RowsDefs
mod RowsStandard
pub mod DefsGrown
pub mod Facts
pub mod Relations
pub mod Joined
pub mod JoinedEval
pub mod JoinedScopes
pub mod Alike
pub mod FreeNames
pub mod Graft
pub mod Primes
pub mod Owned
pub mod Below
pub mod Places
pub mod Groups
mod RowsMeaning
pub mod MidState
pub mod Untested
pub mod UntestedSets
pub mod Quotient
pub mod Quantified
mod RowsScopes
mod RowsTests
pub mod Canonical
pub mod CanonicalForms
pub mod CanonicalEval
pub mod CanonicalTests
pub mod NeverOver
pub mod Untitled
pub mod ScopesSound
