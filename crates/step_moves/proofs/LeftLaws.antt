-- What left sides stand for.
use Rattle.std.proofs.Common.{◌≡◌, ℕ, zero, suc, take, drop, List, [], ◌∷◌, Bool, true, false, cond, Option, None, Ok, Err, refl, sym, ap, ◌∙◌, true≢false}
use Rattle.std.specs.Option.{is_some}
use Rattle.tla_token.specs.Places.{nowhere}
use Rattle.tla_token.specs.Signs.{is_among}
use Rattle.tla_token.specs.declared.place.Place.{Place}
use Rattle.tla_tree.specs.Pool.{AllBelow}
use Rattle.tla_tree.specs.Tree.{Word, Tree, Trees, node, Form, name}
use Rattle.tla_value.specs.declared.fault.FaultKind.TheVariants.{NotFunction}
use Rattle.tla_value.specs.Value.{Value, fault, Outcome}
use Rattle.tla_value.specs.Limits.{bounded}
use Rattle.tla_value.specs.States.{Entries, value_of}
use Rattle.pcal_tree.specs.Program.{Program}
use Rattle.pcal_tree.specs.Scope.{State, Part, reach}
use Rattle.pcal_tree.specs.Variables.{vars}
use Rattle.action_builder.specs.laws.WrittenScope.{written_part}
use Rattle.step_moves.specs.StatesOf.{HasJust}
use Rattle.step_moves.specs.ScopeIn.{scope_in}

pub no_variable : (P : Program) (m : Entries) (x : Word) → HasJust (vars P) m → value_of m x ≡ None → written_part P x ≡ Err (fault NotFunction nowhere)
no_variable P m x has none = by (is_among (vars P) x) (sym (ap (λ (o : Option Value). is_some o) none) ∙ has x)
  where
    by : (b : Bool) → false ≡ b → cond {A = Outcome Part} b (Ok (record { variable = x; path = [] })) (Err (fault NotFunction nowhere)) ≡ Err (fault NotFunction nowhere)
    by true e = absurd (true≢false (sym e))
    by false e = refl

pub whole_reached : (P : Program) (t : Tree) (m : Form) (p : Place) (us : Trees) (x : Word) (xs : List Word) (vs : List Value) (s : State) → t ≡ node m p us → m ≡ name x → reach bounded t (scope_in P xs vs) s ≡ written_part P x
whole_reached P t m p us x xs vs s e is = ap (λ (u : Tree). reach bounded u (scope_in P xs vs) s) (e ∙ ap (λ (n : Form). node n p us) is)

taken_below : (m n : ℕ) (is : List ℕ) → AllBelow m is → AllBelow m (take n is)
taken_below m zero is h = tt
taken_below m (suc n) [] h = tt
taken_below m (suc n) (i ∷ is) h = (h.0, taken_below m n is h.1)

pub rest_below : (m n : ℕ) (is : List ℕ) → AllBelow m is → AllBelow m (take n (drop 1 is))
rest_below m n [] h = taken_below m n [] h
rest_below m n (i ∷ is) h = taken_below m n is h.1
