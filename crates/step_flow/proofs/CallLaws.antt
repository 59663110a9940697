-- What comes of a call in a step, by what the call answers.
use Rattle.std.proofs.Common.{◌≡◌, ℕ, List, [], ◌∷◌, Bool, true, false, Option, Some, None, Ok, Err, refl, sym, ap, subst, ◌∙◌, true≢false}
use Rattle.tla_token.specs.declared.place.Place.{Place}
use Rattle.tla_tree.specs.Tree.{Word, Name, Form, name, Trees, node, no_trees, tree}
use Rattle.tla_value.specs.declared.stop.EvalStop.{EvalStop}
use Rattle.tla_value.specs.declared.stop.EvalStop.TheVariants.{Memory, Fault, Limit}
use Rattle.tla_value.specs.Value.{Value, Trouble, fault, over, Outcome, ◌>>=◌}
use Rattle.tla_value.specs.Meaning.{evals, part_values}
use Rattle.pcal_tree.specs.Algorithm.{Routine, call, procedure_routines}
use Rattle.pcal_tree.specs.Calls.{finished, routine_named}
use Rattle.pcal_tree.specs.Choices.{Walk, went, failed, blocked, walk}
use Rattle.pcal_tree.specs.Program.{Program, Actor}
use Rattle.pcal_tree.specs.Run.{Partner, held}
use Rattle.pcal_tree.specs.Scope.{State, place_in, places_of}
use Rattle.value_forms.specs.Gives.{Stops}
use Rattle.step_walks.specs.FirstValues.{as_written}
use Rattle.step_walks.specs.Flows.{Flow, halts, flowing}
use Rattle.step_walks.specs.StepFlows.{flow_one}
use Rattle.step_walks.specs.WrittenCalls.{called_by, entered_at_by, written_rules}
use Rattle.step_moves.specs.ScopeIn.{scope_in}
use Rattle.step_moves.specs.Prepared.{called_if}
use Rattle.step_choices.specs.Pauses.{pause_of, Pauses}
use Rattle.step_flow.specs.Ends.{root_places}

in_place : (P : Program) (xs : List Word) (vs : List Value) (m : Form) (at : Place) → place_in m at (scope_in P xs vs) ≡ at
in_place P xs vs (name x) at = refl
in_place P xs vs _ at = refl

pub in_places : (P : Program) (xs : List Word) (vs : List Value) (ts : Trees) → places_of ts (scope_in P xs vs) ≡ root_places ts
in_places P xs vs no_trees = refl
in_places P xs vs (tree (node m at us) ts) = λ i. in_place P xs vs m at i ∷ in_places P xs vs ts i

held_blocked : (at : Place) (ns : List ℕ) → walk (held at) ns ≡ blocked at
held_blocked at [] = refl
held_blocked at (n ∷ ns) = refl

abbrev Reached : Type 0
Reached = Bool × State

abbrev is_flagged : Outcome Reached → Bool
is_flagged (Ok r) = r.0
is_flagged (Err k) = false

abbrev is_reached : Outcome Reached → Bool
is_reached (Ok r) = true
is_reached (Err k) = false

abbrev state_in : State → Outcome Reached → State
state_in s (Ok r) = r.1
state_in s (Err k) = s

abbrev trouble_in : Trouble → Outcome Reached → Trouble
trouble_in k (Ok r) = k
trouble_in k (Err e) = e

abbrev then_true : Outcome State → Outcome Reached
then_true o = o >>= λ w. Ok (true, w)

finished_is : (o : Outcome State) (t : State) (ns : List ℕ) (r : Reached) → r ≡ (true, t) → then_true o ≡ Ok r → walk (finished o) ns ≡ went t ns
finished_is (Ok w) t ns r e h = ap (λ (x : State). went x ns) (ap (state_in w) h ∙ ap (λ (q : Reached). q.1) e)
finished_is (Err k) t ns r e h = absurd (true≢false (sym (ap is_reached h)))

finished_not : {X : Type 0} (o : Outcome State) (t : State) (r : Reached) → r ≡ (false, t) → then_true o ≡ Ok r → X
finished_not (Ok w) t r e h = absurd (true≢false (ap is_flagged h ∙ ap (λ (q : Reached). q.0) e))
finished_not (Err k) t r e h = absurd (true≢false (sym (ap is_reached h)))

finished_fails : (o : Outcome State) (k : Trouble) (ns : List ℕ) → then_true o ≡ Err k → walk (finished o) ns ≡ failed k
finished_fails (Ok w) k ns h = absurd (true≢false (ap is_reached h))
finished_fails (Err e) k ns h = ap failed (ap (trouble_in k) h)

none_true : (s t : State) (r : Reached) {X : Type 0} (o : Outcome Reached) → o ≡ Ok (false, s) → r ≡ (true, t) → o ≡ Ok r → X
none_true s t r o none e h = absurd (true≢false (sym (ap is_flagged (sym none ∙ h) ∙ ap (λ (q : Reached). q.0) e)))

none_fails : (r : Reached) (k : Trouble) {X : Type 0} (o : Outcome Reached) → o ≡ Ok r → o ≡ Err k → X
none_fails r k o e h = absurd (true≢false (sym (ap is_reached e) ∙ ap is_reached h))

module _ (P : Program) (v : Actor) (u : Routine) (at : Place) (places : List Place) (vs : List Value) (l : Word) (j : Partner) (s : State) (ns : List ℕ) where
  abbrev entered : Option Routine → Walk
  entered o = walk (entered_at_by (as_written P []) P v u at o places vs l j s) ns

  abbrev answered : Option Routine → Outcome Reached
  answered o = called_if P v u at o places vs l j s

  entered_is : (o : Option Routine) (t : State) (r : Reached) → r ≡ (true, t) → answered o ≡ Ok r → entered o ≡ went t ns
  entered_is None t r e h = none_true s t r (answered None) refl e h
  entered_is (Some p) t r e h = finished_is (called_by (as_written P []) P v u at p places vs l j s) t ns r e h

  entered_none : (o : Option Routine) (t : State) (r : Reached) → r ≡ (false, t) → answered o ≡ Ok r → entered o ≡ blocked at
  entered_none None t r e h = held_blocked at ns
  entered_none (Some p) t r e h = finished_not (called_by (as_written P []) P v u at p places vs l j s) t r e h

  entered_fails : (o : Option Routine) (k : Trouble) → answered o ≡ Err k → entered o ≡ failed k
  entered_fails None k h = none_fails (false, s) k (answered None) refl h
  entered_fails (Some p) k h = finished_fails (called_by (as_written P []) P v u at p places vs l j s) k ns h

module _ (P : Program) (v : Actor) (u : Routine) (here : Word) (at : Place) (p : Name) (ts : Trees) (xs : List Word) (bs : List Value) (l : Word) (j : Partner) (s : State) (ns : List ℕ) (vs : List Value) where
  abbrev answer : Outcome (Bool × State)
  answer = called_if P v u at (routine_named p.word (procedure_routines P.algorithm)) (root_places ts) vs l j s

  abbrev flow_of : Flow State
  flow_of = flow_one (written_rules P [] v u) here at (call p ts) (scope_in P xs bs) l j s ns

  abbrev Evaluated : Type 0
  Evaluated = part_values (evals P.check ts) ((scope_in P xs bs).env s) ≡ Ok vs

  flow_is : Evaluated → flow_of ≡ halts (entered P v u at (root_places ts) vs l j s ns (routine_named p.word (procedure_routines P.algorithm)))
  flow_is e =
      ap (λ (o : Outcome (List Value)). flowing o (λ ws. halts (walk ((written_rules P [] v u).call at p.word (places_of ts (scope_in P xs bs)) ws l j s) ns))) e
      ∙ ap (λ (ps : List Place). halts (walk ((written_rules P [] v u).call at p.word ps vs l j s) ns)) (in_places P xs bs ts)

  pub call_goes : (t : State) (b : Bool) → Evaluated → b ≡ true → answer ≡ Ok (b, t) → flow_of ≡ halts (went t ns)
  call_goes t b e is h = flow_is e ∙ ap halts (entered_is P v u at (root_places ts) vs l j s ns (routine_named p.word (procedure_routines P.algorithm)) t (b, t) (λ i. (is i, t)) h)

  pub call_held : (t : State) (b : Bool) → Evaluated → b ≡ false → answer ≡ Ok (b, t) → flow_of ≡ halts (blocked at)
  call_held t b e is h = flow_is e ∙ ap halts (entered_none P v u at (root_places ts) vs l j s ns (routine_named p.word (procedure_routines P.algorithm)) t (b, t) (λ i. (is i, t)) h)

  pub call_stops : (k : EvalStop) → Evaluated → Stops k answer → Pauses (pause_of k) flow_of
  call_stops Memory e h = tt
  call_stops (Fault k q) e h = flow_is e ∙ ap halts (entered_fails P v u at (root_places ts) vs l j s ns (routine_named p.word (procedure_routines P.algorithm)) (fault k q) h)
  call_stops (Limit q) e h = flow_is e ∙ ap halts (entered_fails P v u at (root_places ts) vs l j s ns (routine_named p.word (procedure_routines P.algorithm)) (over q) h)

-- the answer, with the name and places as they are in the text
abbrev answer_by : Program → Actor → Routine → Place → List Value → Word → Partner → State → Word → List Place → Outcome Reached
answer_by P v u at vs l j s x ps = called_if P v u at (routine_named x (procedure_routines P.algorithm)) ps vs l j s

pub answer_as : (P : Program) (v : Actor) (u : Routine) (at : Place) (vs : List Value) (l : Word) (j : Partner) (s : State) (x y : Word) (ps qs : List Place) (r : Reached) → x ≡ y → ps ≡ qs
    → answer_by P v u at vs l j s x ps ≡ Ok r → answer_by P v u at vs l j s y qs ≡ Ok r
answer_as P v u at vs l j s x y ps qs r e q h = sym (λ i. answer_by P v u at vs l j s (e i) (q i)) ∙ h

pub stops_as : (P : Program) (v : Actor) (u : Routine) (at : Place) (vs : List Value) (l : Word) (j : Partner) (s : State) (x y : Word) (ps qs : List Place) (k : EvalStop) → x ≡ y → ps ≡ qs
    → Stops k (answer_by P v u at vs l j s x ps) → Stops k (answer_by P v u at vs l j s y qs)
stops_as P v u at vs l j s x y ps qs k e q h = subst (Stops k) (λ i. answer_by P v u at vs l j s (e i) (q i)) h
