-- First values for all identifiers, by the processes that have them.
use Rattle.std.proofs.Common.{◌≡◌, ℕ, Bool, true, false, List, [], ◌∷◌, map, Some, Ok, Err, refl, sym, ap, ◌∙◌}
use Rattle.tla_token.specs.declared.place.Place.{Place}
use Rattle.std.specs.Prelude.{if◌then◌else◌}
use Rattle.tla_tree.specs.Pool.{at as tree_at}
use Rattle.tla_tree.specs.Tree.{Tree}
use Rattle.tla_value.specs.Value.{Value, Values, values_in, fun, over, Outcome, ◌>>=◌, in_order}
use Rattle.tla_value.specs.Limits.{bounded, fits}
use Rattle.tla_value.specs.Stops.{members_at}
use Rattle.module_tree.specs.Formulas.{self}
use Rattle.pcal_tree.specs.Algorithm.{Start, unset, equals, among, Routine}
use Rattle.tla_value.proofs.Outcomes.{ok_is}
use Rattle.pcal_tree.specs.declared.algorithm.Start as code_start
use Rattle.pcal_tree.specs.declared.algorithm.Start.TheVariants as TheStart
use Rattle.pcal_tree.specs.InMemory.{start_at}
use Rattle.pcal_tree.specs.Calls.{defaultInitValue}
use Rattle.pcal_tree.specs.Program.{Program, Actor}
use Rattle.pcal_tree.specs.Scope.{State, Scope, value_of}
use Rattle.action_builder.specs.InitialFormulas.{written_in}
use Rattle.action_builder.specs.laws.WrittenScope.{written_scope}
use Rattle.step_walks.specs.FirstValues.{as_written}
use Rattle.step_walks.specs.Flows.{Flow, falls, onward, flowing, chosen}
use Rattle.step_walks.specs.StartFlows.{each_flow, values_flow, spread_flow}
use Rattle.step_moves.specs.declared.program.Program as code
use Rattle.step_moves.specs.Programs.{program_at}
use Rattle.step_moves.specs.ScopeIn.{scope_in}
use Rattle.step_moves.proofs.ScopeLaws.{scope_process}
use Rattle.step_meaning.specs.Begun.{value_by, members_by}
use Rattle.step_meaning.specs.Identified.{selves, HaveThese, each_chosen}
use Rattle.step_meaning.proofs.ActorLaws.{have_ids}

head_same : {X : Type 0} (x y : X) (xs ys : List X) → ◌≡◌ {A = List X} (x ∷ xs) (y ∷ ys) → x ≡ y
head_same {X = X} x y xs ys e = ap (λ (l : List X). elim l [ [] ↦ x | z ∷ zs ↦ z ]) e

tail_same : {X : Type 0} (x y : X) (xs ys : List X) → ◌≡◌ {A = List X} (x ∷ xs) (y ∷ ys) → xs ≡ ys
tail_same {X = X} x y xs ys e = ap (λ (l : List X). elim l [ [] ↦ xs | z ∷ zs ↦ zs ]) e

defaults_alike : (vs : List Actor) (ws : List Value) → HaveThese vs ws → map (λ (v : Actor). defaultInitValue) vs ≡ map (λ (w : Value). defaultInitValue) ws
defaults_alike [] [] h = refl
defaults_alike [] (w ∷ ws) h = absurd (let no : ⊥ = cc in no)
defaults_alike (v ∷ vs) [] h = absurd (let no : ⊥ = cc in no)
defaults_alike (v ∷ vs) (w ∷ ws) h = ap (λ (l : List Value). defaultInitValue ∷ l) (defaults_alike vs ws (tail_same (Some w) v.self (map Some ws) (selves vs) h))

each_alike : (at : Place) (us : Values) (vs : List Actor) (ws : List Value) (ns : List ℕ) → HaveThese vs ws → each_flow at us vs ns ≡ each_chosen at us ws ns
each_alike at us [] [] ns h = refl
each_alike at us [] (w ∷ ws) ns h = absurd (let no : ⊥ = cc in no)
each_alike at us (v ∷ vs) [] ns h = absurd (let no : ⊥ = cc in no)
each_alike at us (v ∷ vs) (w ∷ ws) ns h =
    λ i. chosen at us ns (λ x ms. onward (each_alike at us vs ws ms (tail_same (Some w) v.self (map Some ws) (selves vs) h) i) (λ xs ls. falls (x ∷ xs) ls))

-- the value for the process with an identifier
abbrev pub value_each : code.Program → Tree → State → Value → Outcome Value
value_each p e s v = value_by (program_at p) (self ∷ []) (v ∷ []) e s

module _ (p : code.Program) (u : Routine) where
  abbrev P : Program
  P = program_at p

  abbrev one_by : Scope → Tree → State → Outcome Value
  one_by sc e s = value_of bounded (written_in P u e) sc s

  order_alike : (e : Tree) (s : State) (vs : List Actor) (ws : List Value) → HaveThese vs ws
      → in_order (λ (v : Actor). one_by (written_scope P [] v) e s) vs ≡ in_order (λ (w : Value). value_by P (self ∷ []) (w ∷ []) (written_in P u e) s) ws
  order_alike e s [] [] h = refl
  order_alike e s [] (w ∷ ws) h = absurd (let no : ⊥ = cc in no)
  order_alike e s (v ∷ vs) [] h = absurd (let no : ⊥ = cc in no)
  order_alike e s (v ∷ vs) (w ∷ ws) h =
      let sc : written_scope P [] v ≡ scope_in P (self ∷ []) (w ∷ []) = scope_process P v w (sym (head_same (Some w) v.self (map Some ws) (selves vs) h)) in
      let rest = order_alike e s vs ws (tail_same (Some w) v.self (map Some ws) (selves vs) h) in
      λ i. one_by (sc i) e s >>= (λ y. rest i >>= (λ ys. Ok (y ∷ ys)))

  -- by identifiers
  abbrev pub by_ids : List Value → Place → Start → State → List ℕ → Flow (List Value)
  by_ids ws at unset s ns = falls (map (λ (w : Value). defaultInitValue) ws) ns
  by_ids ws at (equals e) s ns = flowing (in_order (λ (w : Value). value_by P (self ∷ []) (w ∷ []) (written_in P u e) s) ws) (λ us. falls us ns)
  by_ids ws at (among e) s ns = flowing ((value_by P [] [] e s) >>= (members_at at)) (λ us. each_chosen at us ws ns)

  pub values_alike : (vs : List Actor) (ws : List Value) (at : Place) (d : Start) (s : State) (ns : List ℕ) → HaveThese vs ws → values_flow (as_written P []) u vs at d s ns ≡ by_ids ws at d s ns
  values_alike vs ws at unset s ns h = ap (λ (l : List Value). falls l ns) (defaults_alike vs ws h)
  values_alike vs ws at (equals e) s ns h = ap (λ (o : Outcome (List Value)). flowing o (λ us. falls us ns)) (order_alike e s vs ws h)
  values_alike vs ws at (among e) s ns h = λ i. flowing ((value_by P [] [] e s) >>= (members_at at)) (λ us. each_alike at us vs ws ns h i)

  -- the function of them
  abbrev pub checked : List Value → Place → List Value → List ℕ → Flow Value
  checked ws at us ms = flowing (bounded at (fun (values_in ws) (values_in us))) (λ f. falls f ms)

  pub spread_alike : (vs : List Actor) (ws : List Value) (at : Place) (d : Start) (s : State) (ns : List ℕ) → HaveThese vs ws
      → spread_flow (as_written P []) P u vs at d s ns ≡ onward (values_flow (as_written P []) u vs at d s ns) (checked ws at)
  spread_alike vs ws at d s ns h = λ i. onward (values_flow (as_written P []) u vs at d s ns) (checked (have_ids vs ws h i) at)

  module _ (vs : List Actor) (ws : List Value) (place : Place) (s : State) (ns : List ℕ) (h : HaveThese vs ws) where
    abbrev values_from : Start → Flow (List Value)
    values_from d = values_flow (as_written P []) u vs place d s ns

    pub unset_is : (d : code_start.Start) → d ≡ TheStart.Unset → values_from (start_at p.pool.now d) ≡ falls (map (λ (w : Value). defaultInitValue) ws) ns
    unset_is d e = values_alike vs ws place (start_at p.pool.now d) s ns h ∙ ap (λ (x : code_start.Start). by_ids ws place (start_at p.pool.now x) s ns) e

    pub equals_is : (d : code_start.Start) (n : ℕ) → d ≡ TheStart.Equals n → values_from (start_at p.pool.now d) ≡ flowing (in_order (value_each p (written_in P u (tree_at p.pool.now n)) s) ws) (λ us. falls us ns)
    equals_is d n e = values_alike vs ws place (start_at p.pool.now d) s ns h ∙ ap (λ (x : code_start.Start). by_ids ws place (start_at p.pool.now x) s ns) e

    pub among_is : (d : code_start.Start) (n : ℕ) → d ≡ TheStart.Among n → values_from (start_at p.pool.now d) ≡ flowing (members_by P [] [] place (tree_at p.pool.now n) s) (λ us. each_chosen place us ws ns)
    among_is d n e = values_alike vs ws place (start_at p.pool.now d) s ns h ∙ ap (λ (x : code_start.Start). by_ids ws place (start_at p.pool.now x) s ns) e

-- a value that is reached is the value
pub bounded_is : (at : Place) (v w : Value) → bounded at v ≡ Ok w → w ≡ v
bounded_is at v w e = by (fits v) e
  where
    by : (b : Bool) → ◌≡◌ {A = Outcome Value} (if b then Ok v else Err (over at)) (Ok w) → w ≡ v
    by true k = sym (ok_is k)
    by false k = absurd (let no : ⊥ = cc in no)
