-- What holds of each text holds of one that is told.
use Rattle.std.specs.Prelude.{IfSome}
use Rattle.std.proofs.Common.{ℕ, List, Option, Some, None}
use Rattle.outer_io.specs.Outer.{Texts, Tells}

pub of_all : (ts : Option Texts) (file : List ℕ) (P : List ℕ → Type 0) → ((x : List ℕ) → P x) → Tells ts file P
of_all ts file P h = of_found _ P h
  where
    of_found : (o : Option (List ℕ)) (P : List ℕ → Type 0) → ((x : List ℕ) → P x) → IfSome o P
    of_found None P h = tt
    of_found (Some x) P h = h x
