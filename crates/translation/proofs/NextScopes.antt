-- In the scope of Next the sets of processes and ProcSet have the identifiers of the processes, and a single process's expression its identifier.
use Rattle.std.proofs.Common.{◌≡◌, ℕ, suc, List, [], ◌∷◌, ◌++◌, Bool, true, false, cond, Option, Some, None, inl, inr, refl, sym, ◌∙◌, ap, subst, Ok}
use Rattle.tla_token.specs.Signs.{is_among}
use Rattle.tla_tree.specs.Tree.{Word, Tree}
use Rattle.tla_value.specs.Value.{Value, Values, no_values, and, set, Sense}
use Rattle.tla_value.specs.Order.{IsCanonical}
use Rattle.tla_value.specs.Outside.{Outside}
use Rattle.tla_value.specs.Stops.{plain}
use Rattle.tla_value.specs.Meaning.{Env, eval}
use Rattle.tla_value.specs.Definitions.{Valuation, Definition, no_state, or_sense, base, in_states, scope_of}
use Rattle.tla_value.specs.laws.CanonicalNames.{Sound, TestsByValue}
use Rattle.tla_value.proofs.CanonicalTests.{value_kept}
use Rattle.tla_value.proofs.Joined.{Both, none, one}
use Rattle.tla_value.proofs.JoinedEval.{Senses, senses_of}
use Rattle.tla_value.proofs.JoinedScopes.{Envs, eval_in, same_use, DefinitionsJoin, definitions_both, base_both}
use Rattle.tla_value.proofs.ScopesSound.{AreCanonicalIn, scope_sound, scope_tests_by_value}
use Rattle.module_tree.specs.Formulas.{process_set}
use Rattle.module_tree.specs.Module.{Region}
use Rattle.pcal_tree.specs.Algorithm.{Process, processes, Routine, process_routine, numbered, first_process, Algorithm}
use Rattle.pcal_tree.specs.InitialStates.{running}
use Rattle.pcal_tree.specs.Processes.{OneOf, actors_of, actors}
use Rattle.pcal_tree.specs.Program.{Program, Actor}
use Rattle.pcal_tree.specs.Programs.{program_in}
use Rattle.pcal_tree.specs.Scope.{State}
use Rattle.pcal_tree.specs.Takers.{Takers, each_of, single, Taken, taken_process}
use Rattle.pcal_tree.specs.Variables.{vars}
use Rattle.pcal_tree.proofs.ProcessesInOrder.{id, ids, ids_of_actors, At, at_first, at_later, running_is, running_in_order, all_owned}
use Rattle.action_builder.specs.laws.Ready.{values_of}
use Rattle.action_builder.specs.laws.WrittenScope.{definitions_of}
use Rattle.promise.specs.ConstantsAndStates.{AreConstants, IsState}
use Rattle.translation.specs.laws.AcceptedAlgorithm.{IsAcceptedInFile}
use Rattle.translation.specs.laws.AcceptedLaws.{extra_of}
use Rattle.translation.proofs.InitScopes.{grows, no_limits, kept, lacks_grows}
use Rattle.translation.proofs.InitSets.{G, E, Gives, identity_gives, identity_canonical, value_grows, all_grow, Running, running_all, process_set_gives}
use Rattle.translation.proofs.NamedBodies.{among_one}
use Rattle.translation.proofs.RoutinesNamed.{one_each_of}

-- ---- primed names have values too

itself : (ds : List Definition) → Both (DefinitionsJoin grows plain plain no_limits) ds ds
itself [] = none
itself (d ∷ ds) = one (record { title = refl; params = refl; body = eval_in grows plain plain no_limits d.body; use_as = same_use grows d.outside }) (itself ds)

or_grows : (o : Option Value) (s t : Sense) → Senses grows s t → Senses grows (or_sense o s) (or_sense o t)
or_grows (Some v) s t h = senses_of grows _ _ refl
or_grows None s t h = h

states_grow : (k s t : Valuation) → Envs grows (in_states s no_state (base plain k)) (in_states s t (base plain k))
states_grow k s t = record {
  now = λ x p q at. or_grows (s x) _ _ (b.now x p q at);
  primed = λ x p q at. lacks_grows _ _ (_, refl);
  defs = b.defs;
}
  where
    b : Envs grows (base plain k) (base plain k)
    b = base_both grows plain plain no_limits k

-- what has a value in a state has it in a pair of states
pub pair_value : (k : Valuation) (ds : List Definition) (s t : Valuation) (e : Tree) (v : Value) → (eval plain e (scope_of plain k ds s no_state)).value ≡ Ok v → (eval plain e (scope_of plain k ds s t)).value ≡ Ok v
pair_value k ds s t e v q =
    kept _ _ v (eval_in grows plain plain no_limits e _ _ (definitions_both grows plain plain no_limits ds ds (itself ds) _ _ (states_grow k s t))).value q

-- ---- canonical values

pub canonical_in : (P : Program) (s : State) → IsState P s → AreCanonicalIn (values_of (vars P) s)
canonical_in P s h x v e = by (is_among (vars P) x) refl e
  where
    by : (b : Bool) → is_among (vars P) x ≡ b → cond b (Some (s x)) None ≡ Some v → IsCanonical v
    by true m q = subst IsCanonical (ap (λ (o : Option Value). elim o [ Some w ↦ w | None ↦ v ]) q) (one_each_of (λ y. IsCanonical (s y)) (vars P) h x (among_one (vars P) x m))
    by false m q = cc

-- ---- processes by their numbers

pub record Numbered (r : Taken) (ps : List Process) (n : ℕ) : Type 0 where
  pub process : Process
  pub number : ℕ
  pub at : At process number ps n
  pub is : r ≡ taken_process number process

pub numbered_of : (r : Taken) (n : ℕ) (ps : List Process) → OneOf r (numbered taken_process n ps) → Numbered r ps n
numbered_of r n [] h = absurd h
numbered_of r n (p ∷ ps) (inl e) = record { process = p; number = n; at = at_first p n ps; is = e }
numbered_of r n (p ∷ ps) (inr k) = (let h = numbered_of r (suc n) ps k in record { process = h.process; number = h.number; at = at_later h.process p h.number n ps h.at; is = h.is })

pub own_is : (u : Routine) (v : Actor) (is : Values) → OneOf v (actors_of u is) → v.own ≡ u
own_is u v no_values h = absurd h
own_is u v (and i is) (inl e) = ap (λ (w : Actor). w.own) e
own_is u v (and i is) (inr k) = own_is u v is k

module _ (o : Outside) (a : Algorithm) (h : IsAcceptedInFile o a) (title : Word) (region : Region) (values : Valuation) (k : AreConstants (record { title = title; outside = o; region = region }) values) where
  abbrev P : Program
  P = program_in plain o a values

  module _ (s t : State) where
    abbrev X : Env
    X = scope_of plain values (definitions_of P ++ extra_of a) (values_of (vars P) s) (values_of (vars P) t)

    pub names_sound : IsState P s → IsState P t → Sound X
    names_sound i j = scope_sound plain value_kept values (definitions_of P ++ extra_of a) (values_of (vars P) s) (values_of (vars P) t) k.canonical (canonical_in P s i) (canonical_in P t j)

    pub names_by_value : TestsByValue X
    names_by_value = scope_tests_by_value plain values (definitions_of P ++ extra_of a) (values_of (vars P) s) (values_of (vars P) t)

    there : (e : Tree) (v : Value) → (eval plain e (E o a h title region values k s)).value ≡ Ok v → (eval plain e X).value ≡ Ok v
    there e v q = pair_value values (definitions_of P ++ extra_of a) (values_of (vars P) s) (values_of (vars P) t) e v q

    identity_there : (e : Tree) (v : Value) → (eval plain e (G o a h title region values k)).value ≡ Ok v → (eval plain e X).value ≡ Ok v
    identity_there e v q = there e v (value_grows o a h title region values k (E o a h title region values k s) (all_grow o a h title region values k s) e v q)

    -- a process set's set, and a single process's one identifier
    abbrev pub Identified : Takers → List Actor → Type 0
    Identified (single e) vs = (v : Actor) × (vs ≡ v ∷ []) × ((eval plain e X).value ≡ Ok (id v))
    Identified (each_of e) vs = (eval plain e X).value ≡ Ok (set (ids vs))
    Identified _ vs = ⊥

    module _ (ps : List Process) (vs : List Actor) (main : a.main ≡ processes ps) (all : actors P ≡ Ok vs) where
      run : Running o a h title region values k ps vs
      run = running_all o a h title region values k ps vs main all

      pub set_there : (eval plain process_set X).value ≡ Ok (set (ids vs))
      set_there = there process_set (set (ids vs)) (process_set_gives o a h title region values k s ps vs main run)

      -- who takes a process's steps
      pub record TakenThere (r : Taken) : Type 0 where
        pub members : Values
        pub ordered : running r.routine vs ≡ actors_of r.routine members
        pub identified : Identified r.takers (running r.routine vs)

      of_process : (p : Process) (m : ℕ) → At p m ps (first_process a) → TakenThere (taken_process m p)
      of_process p m at =
          let (is, d, e) = running_is P p m (first_process a) ps run.all at run.given in
          let gives = identity_gives o a h title region values k p is d in
          let order = ap (running (process_routine m p)) run.ordered ∙ running_in_order P p m (first_process a) ps run.all is at run.given d (identity_canonical o a h title region values k p.several p.identity is gives).0 run.distinct (all_owned P p m (first_process a) ps run.all at run.given) in
          record { members = is; ordered = order; identified = by is p.several gives (running (process_routine m p) vs) order }
        where
          by : (is : Values) (b : Bool) → Gives o a h title region values k b p.identity is → (ws : List Actor) → ws ≡ actors_of (process_routine m p) is → Identified (cond b (each_of p.identity) (single p.identity)) ws
          by is true e ws q = identity_there p.identity (set is) e ∙ ap (λ us. Ok (set us)) (sym (ap ids q ∙ ids_of_actors (process_routine m p) is))
          by is false (i, q, e) ws r = (record { self = Some i; own = process_routine m p }, r ∙ ap (actors_of (process_routine m p)) q, identity_there p.identity i e)

      pub taken_there : (r : Taken) → OneOf r (numbered taken_process (first_process a) ps) → TakenThere r
      taken_there r c = (let n = numbered_of r (first_process a) ps c in subst TakenThere (sym n.is) (of_process n.process n.number n.at))
