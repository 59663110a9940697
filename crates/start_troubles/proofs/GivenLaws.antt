-- Variables of many processes: where nothing is to be chosen, the first value that a start gives is the one that is compared; else the members of a set are asked.
use Rattle.std.proofs.Common.{◌≡◌, ℕ, Bool, List, [], map, Ok, Err, refl, sym, ap, subst, ◌∙◌}
use Rattle.tla_token.specs.declared.place.Place.{Place}
use Rattle.tla_tree.specs.Tree.{Tree}
use Rattle.tla_value.specs.declared.stop.EvalStop.{EvalStop}
use Rattle.tla_value.specs.Meaning.{eval}
use Rattle.tla_value.specs.Order.{same}
use Rattle.tla_value.specs.Value.{Value, Values, Trouble, Outcome, over, ◌>>=◌, in_order, values_in}
use Rattle.tla_value.specs.Stops.{members_at}
use Rattle.tla_value.proofs.Outcomes.{then_then}
use Rattle.pcal_tree.specs.Algorithm.{Start, unset, equals, among, Routine}
use Rattle.pcal_tree.specs.Calls.{defaultInitValue}
use Rattle.pcal_tree.specs.Choices.{failed}
use Rattle.pcal_tree.specs.InitialStates.{function_on, has_members}
use Rattle.pcal_tree.specs.Program.{Program, Actor}
use Rattle.pcal_tree.specs.Scope.{State}
use Rattle.action_builder.specs.InitialFormulas.{written_in}
use Rattle.action_builder.specs.laws.WrittenScope.{written_scope}
use Rattle.value_forms.specs.Gives.{Stops}
use Rattle.value_forms.proofs.StopLaws.{then_stops}
use Rattle.step_walks.specs.FirstValues as flows
use Rattle.step_walks.specs.Flows.{Flow, falls, halts, onward, flowing}
use Rattle.step_walks.specs.StartFlows.{spread_flow}
use Rattle.step_choices.specs.declared.pause.Pause.{Pause}
use Rattle.step_choices.specs.Pauses.{Pauses}
use Rattle.step_meaning.specs.Identified.{HaveThese}
use Rattle.step_meaning.proofs.ActorLaws.{have_ids}
use Rattle.written_traces.specs.AskedStarts.{as_written, spread_asked}
use Rattle.start_troubles.specs.Asked.{IsGiven}
use Rattle.start_troubles.proofs.AskedLaws.{stops_is}

flowing_twice : {X Y : Type 0} (o : Outcome X) (go : X → Outcome Y) (ns : List ℕ) → onward (flowing o (λ x. falls x ns)) (λ x ms. flowing (go x) (λ y. falls y ms)) ≡ flowing (o >>= go) (λ y. falls y ns)
flowing_twice (Ok x) go ns = refl
flowing_twice (Err k) go ns = refl

flowing_falls : {X : Type 0} (o : Outcome X) (x : X) (ns ms : List ℕ) → flowing o (λ y. falls y ns) ≡ falls x ms → o ≡ Ok x
flowing_falls (Ok y) x ns ms e = cc
flowing_falls (Err k) x ns ms e = cc

pub flowing_halts : {X : Type 0} (o : Outcome X) (ns : List ℕ) (k : Trouble) → flowing o (λ y. falls y ns) ≡ halts (failed k) → o ≡ Err k
flowing_halts (Ok y) ns k e = cc
flowing_halts (Err j) ns k e = cc

module _ (P : Program) (u : Routine) (vs : List Actor) (at : Place) (s : State) where
  abbrev made : List Value → Outcome Value
  made ws = P.check at (function_on vs ws)

  abbrev values_by : Tree → Outcome (List Value)
  values_by e = in_order (λ (v : Actor). (eval P.check (written_in P u e) ((written_scope P [] v).env s)).value) vs

  -- the value that a declaration gives
  abbrev given : Start → Outcome Value
  given unset = made (map (λ (v : Actor). defaultInitValue) vs)
  given (equals e) = values_by e >>= made
  given (among e) = Err (over at)

  abbrev flow_of : Start → List ℕ → Flow Value
  flow_of d ns = spread_flow (flows.as_written P []) P u vs at d s ns

  abbrev asked_of : Start → Value → Outcome Bool
  asked_of d f = spread_asked (as_written P) P u vs at d s f

  flow_given : (d : Start) → IsGiven d → (ns : List ℕ) → flow_of d ns ≡ flowing (given d) (λ g. falls g ns)
  flow_given unset h ns = refl
  flow_given (equals e) h ns = flowing_twice (values_by e) made ns
  flow_given (among e) h ns = absurd h

  asked_given : (d : Start) → IsGiven d → (f : Value) → asked_of d f ≡ (given d >>= λ g. Ok (same f g))
  asked_given unset h f = refl
  asked_given (equals e) h f = sym (then_then (values_by e) made (λ g. Ok (same f g)))
  asked_given (among e) h f = absurd h

  pub given_compared : (d : Start) → IsGiven d → (ns ms : List ℕ) (f g : Value) (b : Bool) → flow_of d ns ≡ falls g ms → b ≡ same f g → asked_of d f ≡ Ok b
  given_compared d h ns ms f g b e q =
      asked_given d h f ∙ ap (λ (o : Outcome Value). o >>= λ w. Ok (same f w)) (flowing_falls (given d) g ns ms (sym (flow_given d h ns) ∙ e)) ∙ ap (λ (t : Bool). Ok t) (sym q)

  pub given_stops : (d : Start) → IsGiven d → (ns : List ℕ) (f : Value) (q : Pause) (k : EvalStop) → ((o : Outcome Value) (ms : List ℕ) → Pauses q (flowing o (λ v. falls v ms)) → Stops k o) → Pauses q (flow_of d ns) → Stops k (asked_of d f)
  given_stops d h ns f q k stopped e =
      stops_is k (given d >>= λ g. Ok (same f g)) (asked_of d f) (sym (asked_given d h f))
      (then_stops k (given d) (λ g. Ok (same f g)) (stopped (given d) ns (subst (Pauses q) (flow_given d h ns) e)))

-- ---- a set

module _ (P : Program) (u : Routine) (vs : List Actor) (ids : List Value) (h : HaveThese vs ids) (at : Place) (e : Tree) (s : State) (f : Value) where
  abbrev asked : Outcome Bool
  asked = spread_asked (as_written P) P u vs at (among e) s f

  abbrev set_value : Outcome Value
  set_value = ((as_written P).outside e s).value

  abbrev of_members : Values → Outcome Bool
  of_members ws = Ok (has_members (values_in ids) ws f)

  abbrev of_set : Value → Outcome Bool
  of_set w = members_at at w >>= of_members

  set_is : (set_value >>= of_set) ≡ asked
  set_is = λ i. set_value >>= (λ w. members_at at w >>= (λ ws. Ok (has_members (values_in (sym (have_ids vs ids h) i)) ws f)))

  pub members_tell : (w : Value) (ws : Values) (b : Bool) → set_value ≡ Ok w → members_at at w ≡ Ok ws → b ≡ has_members (values_in ids) ws f → asked ≡ Ok b
  members_tell w ws b q m r = sym set_is ∙ ap (λ (o : Outcome Value). o >>= of_set) q ∙ ap (λ (o : Outcome Values). o >>= of_members) m ∙ ap (λ (t : Bool). Ok t) (sym r)
