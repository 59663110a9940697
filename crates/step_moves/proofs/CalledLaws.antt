-- The procedure that a call finds among prepared ones.
use Rattle.std.proofs.Common.{◌≡◌, ℕ, suc, List, [], ◌∷◌, Bool, true, false, cond, bytes_eq, Option, Some, None, unwrap_or, Ok, refl, sym, ap, ◌∙◌}
use Rattle.std.specs.List.{AllByRecursion}
use Rattle.std.specs.Option.{option_map}
use Rattle.tla_token.specs.declared.place.Place.{Place}
use Rattle.tla_tree.specs.Tree.{Word}
use Rattle.tla_value.specs.Value.{Value, Outcome, ◌>>=◌}
use Rattle.pcal_tree.specs.Algorithm.{Procedure, Routine, procedure_routine, numbered}
use Rattle.pcal_tree.specs.Scope.{State}
use Rattle.pcal_tree.specs.Run.{Partner}
use Rattle.pcal_tree.specs.Program.{Program, Actor}
use Rattle.pcal_tree.specs.Calls.{routine_named}
use Rattle.step_walks.specs.WrittenCalls.{called_by}
use Rattle.step_moves.specs.Prepared.{prepared_routine, as_prepared, IsLabelled, called_if}
use Rattle.step_moves.proofs.PreparedLaws.{called_alike}

abbrev pub LabelledIf : Option Routine → Type 0
LabelledIf None = Unit {0}
LabelledIf (Some p) = IsLabelled p.body

labelled_by : (b : Bool) (u : Routine) (o : Option Routine) → IsLabelled u.body → LabelledIf o → LabelledIf (cond b (Some u) o)
labelled_by true u o h k = h
labelled_by false u o h k = k

pub labelled_named : (x : Word) (n : ℕ) (ps : List Procedure) → AllByRecursion (λ (p : Procedure). IsLabelled p.body) ps → LabelledIf (routine_named x (numbered procedure_routine n ps))
labelled_named x n [] h = tt
labelled_named x n (p ∷ ps) h = labelled_by (bytes_eq p.name.word x) (procedure_routine n p) (routine_named x (numbered procedure_routine (suc n) ps)) h.0 (labelled_named x (suc n) ps h.1)

module _ (P : Program) (v : Actor) (u : Routine) (at : Place) (places : List Place) (vs : List Value) (l : Word) (j : Partner) (s : State) where
  abbrev after_call : Outcome State → Outcome (Bool × State)
  after_call o = o >>= (λ t. Ok (true, t))

  pub called_found : (c : Routine) (o : Option Routine) → option_map (prepared_routine P) o ≡ Some c → LabelledIf o
      → called_if P v u at o places vs l j s ≡ (called_by (as_prepared P) P v u at c places vs l j s) >>= (λ t. Ok (true, t))
  called_found c None e h = absurd (let no : ⊥ = cc in no)
  called_found c (Some p) e h =
      ap after_call (sym (called_alike P v at p places vs h u l j s)) ∙ ap (λ (q : Routine). after_call (called_by (as_prepared P) P v u at q places vs l j s)) (ap (λ (o : Option Routine). unwrap_or o c) e)

  pub called_missing : (o : Option Routine) → option_map (prepared_routine P) o ≡ None → called_if P v u at o places vs l j s ≡ Ok (false, s)
  called_missing None e = refl
  called_missing (Some p) e = absurd (let no : ⊥ = cc in no)
