-- The least set of names that has the procedures that a routine can reach by calls ("A PlusCal User's Manual", section 3.4, procedures).
use Rattle.std.specs.Prelude.{◌≡◌, List, Bool, true}
use Rattle.tla_token.specs.Signs.{is_among}
use Rattle.tla_tree.specs.Tree.{Word}
use Rattle.pcal_tree.specs.Algorithm.{Routine}
use Rattle.pcal_tree.specs.Processes.{OneOf}
use Rattle.fairness.specs.ReachedProcedures.{calls}

-- of these procedures it has those that the routine calls, and those that one in it calls
pub record IsClosed (us : List Routine) (u : Routine) (R : Word → Bool) : Type 0 where
  pub starts : (q : Routine) → OneOf q us → is_among (calls u.body) q.name.word ≡ true → R q.name.word ≡ true
  pub goes_on : (p q : Routine) → OneOf p us → OneOf q us → R p.name.word ≡ true → is_among (calls p.body) q.name.word ≡ true → R q.name.word ≡ true

pub record IsLeast (us : List Routine) (u : Routine) (R : Word → Bool) : Type 0 where
  pub closed : IsClosed us u R
  pub least : (S : Word → Bool) → IsClosed us u S → (q : Routine) → OneOf q us → R q.name.word ≡ true → S q.name.word ≡ true
