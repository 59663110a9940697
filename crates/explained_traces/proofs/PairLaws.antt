-- Looking at the states of a trace after the first: the rest goes on from a state as all does from the first one.
use Rattle.std.proofs.Common.{◌≡◌, ℕ, zero, suc, ◌+◌, ◌<◌, ◌≤◌, List, [], ◌∷◌, ◌++◌, length, drop, get_or, map, refl, sym, ap, subst, ◌∙◌, append_assoc, arith, Option, Some, None}
use Rattle.std.specs.List.{AllByRecursion}
use Rattle.std.proofs.lemmas.List.{append-nil, drop_more, drop_all}
use Rattle.tla_value.specs.Definitions.{Valuation}
use Rattle.tla_value.specs.States.{Entries}
use Rattle.tla_value.specs.Value.{Trouble}
use Rattle.module_tree.specs.ActionTruth.{Verdict}
use Rattle.module_tree.specs.Module.{Module}
use Rattle.module_tree.specs.ModuleTruth.{next_holds}
use Rattle.pcal_tree.specs.Program.{Program, Actor}
use Rattle.pcal_tree.specs.Scope.{State}
use Rattle.pcal_tree.specs.Variables.{on_variables}
use Rattle.step_runner.specs.Explained as pure
use Rattle.step_runner.specs.Explained.{told}
use Rattle.step_runner.specs.Fronts.{Text}
use Rattle.step_runner.specs.Shown.{pair_before, state_text, pairs_text}
use Rattle.step_moves.specs.StatesOf.{state_of}
use Rattle.written_runs.specs.WrittenTroubles.{written_trouble_of_all}
use Rattle.written_traces.specs.WrittenTraces.{pairs_explained_once}
use Rattle.explained_traces.specs.declared.explaining.Halt.{Halt}
use Rattle.explained_traces.specs.Halts.{halt_of}
use Rattle.explained_traces.specs.Judging.{truth_of, halts}
use Rattle.explained_traces.specs.Shows.{Shows}
use Rattle.explained_traces.proofs.VerdictLaws.{after, after_is}

nothing_more : (now more old new : Text) → more ≡ [] → now ++ more ≡ old ++ new → now ≡ old ++ new
nothing_more now more old new e h = sym (append-nil now) ∙ ap (λ (x : Text). now ++ x) (sym e) ∙ h

pub all_at : {X : Type 0} (Q : X → Type 0) (xs : List X) (i : ℕ) (x : X) → AllByRecursion Q xs → x ≡ get_or xs i x → i < length xs → Q x
all_at Q [] i x h is less = absurd (let no : ⊥ = omega (arith, less) in no)
all_at Q (y ∷ ys) zero x h is less = subst Q (sym is) h.0
all_at Q (y ∷ ys) (suc i) x h is less = all_at Q ys i x h.1 is (omega (arith, less))

module _ (P : Program) (m : Module) (constants : Valuation) (vs : List Actor) where
  abbrev rest : ℕ → State → List State → pure.Explained
  rest n s ts = pairs_explained_once P m constants vs n s ts

  abbrev rest_text : ℕ → State → List State → Text
  rest_text n s ts = pairs_text P m constants n s (rest n s ts).states

  abbrev said : State → State → Verdict
  said s t = next_holds P.check m constants (on_variables P s) (on_variables P t)

  abbrev trouble : State → Trouble
  trouble s = told P (written_trouble_of_all P s vs)

  -- why the trace stops at t behind s
  abbrev pub stops_at : ℕ → State → State → Option pure.Halt
  stops_at n s t = halts n (truth_of (said s t)) (trouble s)

  comes : (o : Option pure.Halt) (n : ℕ) (s t : State) (left : List State) → stops_at n s t ≡ o → rest n s (t ∷ left) ≡ after o t (rest (suc n) t left)
  comes o n s t left e = after_is n (said s t) (trouble s) t (rest (suc n) t left) ∙ ap (λ (x : Option pure.Halt). after x t (rest (suc n) t left)) e

  module _ (first : State) (all : List State) (old : Text) where
    -- what is left from state n on goes on behind s, with this text before it, as all does behind the first state
    pub record Going (left : List State) (n : ℕ) (s : State) (now : Text) : Type 0 where
      pub text : now ++ rest_text n s left ≡ old ++ rest_text 1 first all
      pub halt : (rest n s left).halt ≡ (rest 1 first all).halt

    abbrev pub Shown : Text → Option Halt → Type 0
    Shown new o = Shows (pairs_text P m constants 1 first) old new o (rest 1 first all)

    going_next : (n : ℕ) (s t : State) (left : List State) (now new : Text) → stops_at n s t ≡ None → new ≡ now ++ state_text P n (pair_before P m constants s t) t
        → Going (t ∷ left) n s now → Going left (suc n) t new
    going_next n s t left now new none more g =
        let is : rest n s (t ∷ left) ≡ after None t (rest (suc n) t left) = comes None n s t left none in
        let one = state_text P n (pair_before P m constants s t) t in
        let others = rest_text (suc n) t left in
        record {
          text =
              ap (λ (x : Text). x ++ others) more ∙ append_assoc now one others ∙ ap (λ (x : pure.Explained). now ++ pairs_text P m constants n s x.states) (sym is) ∙ g.text;
          halt = ap (λ (x : pure.Explained). x.halt) (sym is) ∙ g.halt;
        }

    going_halts : (h : pure.Halt) (o : Option Halt) (n : ℕ) (s t : State) (left : List State) (now : Text) → stops_at n s t ≡ Some h → halt_of o ≡ Some h → Going (t ∷ left) n s now → Shown now o
    going_halts h o n s t left now e is_o g =
        let is : rest n s (t ∷ left) ≡ record { states = []; halt = Some h } = comes (Some h) n s t left e in
        let none : rest_text n s (t ∷ left) ≡ [] = ap (λ (x : pure.Explained). pairs_text P m constants n s x.states) is in
        record {
          text = nothing_more now _ old _ none g.text;
          halt = is_o ∙ sym (ap (λ (x : pure.Explained). x.halt) is) ∙ g.halt;
        }

    going_ends : (n : ℕ) (s : State) (now : Text) → Going [] n s now → Shown now None
    going_ends n s now g = record { text = nothing_more now [] old _ refl g.text; halt = g.halt }

  -- ---- of a list in memory

  module _ (first : State) (all : List Entries) (old : Text) where
    abbrev pub GoingFrom : ℕ → State → Text → Type 0
    GoingFrom i s now = Going first (map state_of all) old (map state_of (drop i all)) (i + 1) s now

    from_one : (i : ℕ) (x : Entries) (s : State) (now : Text) → x ≡ get_or all i x → i < length all → GoingFrom i s now
        → Going first (map state_of all) old (state_of x ∷ map state_of (drop (i + 1) all)) (i + 1) s now
    from_one i x s now is less g =
        subst (λ (left : List Entries). Going first (map state_of all) old (map state_of left) (i + 1) s now)
        (drop_more all i x less ∙ ap (λ (y : Entries). y ∷ drop (i + 1) all) (sym is)) g

    pub next_from : (i : ℕ) (x : Entries) (s : State) (now new : Text) → x ≡ get_or all i x → i < length all → None ≡ stops_at (i + 1) s (state_of x)
        → new ≡ now ++ state_text P (i + 1) (pair_before P m constants s (state_of x)) (state_of x) → GoingFrom i s now → GoingFrom (i + 1) (state_of x) new
    next_from i x s now new is less none more g =
        let on : suc (i + 1) ≡ i + 1 + 1 = omega arith in
        subst (λ (n : ℕ). Going first (map state_of all) old (map state_of (drop (i + 1) all)) n (state_of x) new) on
        (going_next first (map state_of all) old (i + 1) s (state_of x) (map state_of (drop (i + 1) all)) now new (sym none) more (from_one i x s now is less g))

    pub halts_from : (h : pure.Halt) (o : Option Halt) (i : ℕ) (x : Entries) (s : State) (now : Text) → x ≡ get_or all i x → i < length all → Some h ≡ stops_at (i + 1) s (state_of x) → halt_of o ≡ Some h
        → GoingFrom i s now → Shown first (map state_of all) old now o
    halts_from h o i x s now is less e is_o g =
        going_halts first (map state_of all) old h o (i + 1) s (state_of x) (map state_of (drop (i + 1) all)) now (sym e) is_o (from_one i x s now is less g)

    pub ends_from : (i : ℕ) (s : State) (now : Text) → length all ≤ i → GoingFrom i s now → Shown first (map state_of all) old now None
    ends_from i s now less g =
        going_ends first (map state_of all) old (i + 1) s now (subst (λ (left : List Entries). Going first (map state_of all) old (map state_of left) (i + 1) s now) (drop_all i all less) g)
