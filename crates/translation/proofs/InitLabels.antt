-- The conjuncts of Init for the stack and pc, in an accepted algorithm's module: the CASE gives each process the first label of its own body, and every stack is empty.
use Rattle.std.proofs.Common.{◌≡◌, ℕ, suc, List, [], ◌∷◌, ◌++◌, Bool, true, false, ◌||◌, cond, map, None, ◌⊎◌, inl, inr, refl, sym, ◌∙◌, ap, subst, Ok, bytes_eq}
use Rattle.std.proofs.Math.Bool.{or-false}
use Rattle.std.proofs.lemmas.Bool.{or_left, or_right}
use Rattle.std.specs.List.{AllByRecursion}
use Rattle.tla_token.specs.Signs.{is_among}
use Rattle.tla_tree.specs.Tree.{Word, Tree}
use Rattle.tla_value.specs.Value.{Value, Values, no_values, and, set, and_then, Outcome, ◌>>=◌}
use Rattle.tla_value.specs.Order.{same, holds, IsAscending, IsCanonical, AreCanonical}
use Rattle.tla_value.specs.OrderLaws.{same_is, same_self}
use Rattle.tla_value.specs.Stops.{plain}
use Rattle.tla_value.specs.Meaning.{Env, bind, eval}
use Rattle.tla_value.specs.Definitions.{Valuation}
use Rattle.tla_value.specs.Outside.{Outside}
use Rattle.tla_value.proofs.Outcomes.{ok_is}
use Rattle.module_tree.specs.Formulas.{self, named, process_set, empty_tuple, equal, function_of_self}
use Rattle.module_tree.specs.Module.{Region}
use Rattle.module_tree.specs.ModuleTruth.{all_hold}
use Rattle.module_tree.specs.ActionTruth.{truth_in}
use Rattle.pcal_tree.specs.Algorithm.{Statements, Process, alone, processes, Routine, process_routine, alone_routine, numbered, first_process, procedure_routines, main_routines, Algorithm}
use Rattle.pcal_tree.specs.Calls.{label_value, first_label}
use Rattle.pcal_tree.specs.InitialStates.{function_on, own_allowed, empty_stack, stack_allowed, pc_allowed}
use Rattle.pcal_tree.specs.Processes.{OneOf, actors_of, all_actors}
use Rattle.pcal_tree.specs.Program.{Program, Actor}
use Rattle.pcal_tree.specs.Scope.{State}
use Rattle.pcal_tree.specs.Takers.{each_of, single, lone, takers_of, Taken, taken_process, taken_main}
use Rattle.pcal_tree.specs.Variables.{declared, pc, stack, stack_for, written_by_all, vars}
use Rattle.pcal_tree.proofs.OneStand.{every_both}
use Rattle.pcal_tree.proofs.ReplyConverse.{in_sorted}
use Rattle.pcal_tree.proofs.ProcessesInOrder.{id, ids, ids_of_actors, Distinct, sorted_ascending, all_parts}
use Rattle.pcal_tree.proofs.RoutineNames.{every_one, one_either}
use Rattle.action_builder.specs.InitialFormulas.{for_all_processes, stack_start, is_taker, first_pc, pc_value, pc_start}
use Rattle.action_builder.proofs.SpreadStarts.{at_each_self, function_is, equal_is}
use Rattle.action_builder.proofs.WrittenStarts.{Takes, pc_is, Follows}
use Rattle.promise.specs.ConstantsAndStates.{AreConstants, IsState}
use Rattle.translation.specs.laws.AcceptedAlgorithm.{IsAcceptedInFile}
use Rattle.translation.proofs.InitSets.{P, E, each_grows, Gives, identity_gives, identity_canonical, value_grows, test_grows, Running, process_set_gives}
use Rattle.translation.proofs.InitValues.{in_is, variable_is}
use Rattle.translation.proofs.NamesApart.{false_among, never}
use Rattle.translation.proofs.RoutinesNamed.{among_later, among_before}

-- ---- members of lists of processes

held_one : (v : Actor) (vs : List Actor) → OneOf v vs → holds (id v) (ids vs) ≡ true
held_one v [] m = absurd m
held_one v (w ∷ ws) (inl e) = or_left (same (id v) (id w)) (holds (id v) (ids ws)) (ap (λ (z : Actor). same (id v) (id z)) (sym e) ∙ same_self (id v))
held_one v (w ∷ ws) (inr m) = or_right (same (id v) (id w)) (holds (id v) (ids ws)) (held_one v ws m)

-- the identifier of a later process is none of the first ones'
apart_front : (ws more : List Actor) → Distinct (ws ++ more) → (v : Actor) → OneOf v more → holds (id v) (ids ws) ≡ false
apart_front [] more d v m = refl
apart_front (w ∷ ws) more d v m = λ i. differs i || apart_front ws more d.1 v m i
  where
    later : (zs : List Actor) → OneOf v (zs ++ more)
    later [] = m
    later (z ∷ zs) = inr (later zs)

    differs : same (id v) (id w) ≡ false
    differs = false_among (same (id v) (id w)) (λ q. never (sym (held_one v (ws ++ more) (later ws)) ∙ ap (λ z. holds z (ids (ws ++ more))) (same_is (id v) (id w) q) ∙ d.0))

distinct_rest : (ws more : List Actor) → Distinct (ws ++ more) → Distinct more
distinct_rest [] more d = d
distinct_rest (w ∷ ws) more d = distinct_rest ws more d.1

-- an actor of these identifiers
record Its (u : Routine) (is : Values) (v : Actor) : Type 0 where
  own : u ≡ v.own
  there : holds (id v) is ≡ true

its_own : (u : Routine) (is : Values) (v : Actor) → OneOf v (actors_of u is) → Its u is v
its_own u no_values v m = absurd m
its_own u (and i is) v (inl e) = record { own = sym (ap (λ (z : Actor). z.own) e); there = or_left (same (id v) i) (holds (id v) is) (ap (λ (z : Actor). same (id z) i) e ∙ same_self i) }
its_own u (and i is) v (inr m) = let k = its_own u is v m in record { own = k.own; there = or_right (same (id v) i) (holds (id v) is) k.there }

-- the values of an expression for each
at_each : (e : Tree) (env : Env) (f : Actor → Value) (vs : List Actor) → ((v : Actor) → OneOf v vs → (eval plain e (bind self (id v) env)).value ≡ Ok (f v)) → at_each_self e env vs ≡ Ok (map f vs)
at_each e env f [] g = refl
at_each e env f (v ∷ vs) g = λ i. g v (inl refl) i >>= (λ y. at_each e env f vs (λ w m. g w (inr m)) i >>= (λ ys. Ok (y ∷ ys)))

-- a conjunct alone
pub one_holds : (p v : Outcome Bool) → Follows p v → Follows p (and_then v (Ok true))
one_holds p v f b e = ap (λ z. and_then z (Ok true)) (f b e) ∙ alone_is b
  where
    alone_is : (b : Bool) → and_then (Ok b) (Ok true) ≡ Ok b
    alone_is true = refl
    alone_is false = refl

module _ (o : Outside) (a : Algorithm) (h : IsAcceptedInFile o a) (title : Word) (r : Region) (values : Valuation) (k : AreConstants (record { title = title; outside = o; region = r }) values) (s : State) (state : IsState (P o a h title r values k) s) where
  abbrev Q : Program
  Q = P o a h title r values k

  abbrev env : Env
  env = E o a h title r values k s

  -- ---- who takes a step

  actors_canonical : (u : Routine) (is : Values) → AreCanonical is → AllByRecursion (λ (v : Actor). IsCanonical (id v)) (actors_of u is)
  actors_canonical u no_values c = tt
  actors_canonical u (and i is) c = (c.0, actors_canonical u is c.1)

  all_canonical : (n : ℕ) (ps : List Process) (vs : List Actor) → all_actors Q n ps ≡ Ok vs → AllByRecursion (λ (v : Actor). IsCanonical (id v)) vs
  all_canonical n [] vs e = subst (AllByRecursion (λ (v : Actor). IsCanonical (id v))) (ok_is e) tt
  all_canonical n (p ∷ ps) vs e =
      let (is, more, d, f, q) = all_parts Q n p ps vs e in
      subst (AllByRecursion (λ (v : Actor). IsCanonical (id v))) (sym q)
      (every_both (λ (v : Actor). IsCanonical (id v)) (actors_of (process_routine n p) is) more (actors_canonical (process_routine n p) is (identity_canonical o a h title r values k p.several p.identity is (identity_gives o a h title r values k p is d)).1)
      (all_canonical (suc n) ps more f))

  taker_test : (p : Process) (is : Values) → Gives o a h title r values k p.several p.identity is → (v : Value) → IsCanonical v → (b : Bool) → holds v is ≡ b → truth_in plain (bind self v env) (is_taker (takers_of p)) ≡ Ok b
  taker_test p is g v c b e = by p.several g
    where
      by : (m : Bool) → Gives o a h title r values k m p.identity is → truth_in plain (bind self v env) (is_taker (cond m (each_of p.identity) (single p.identity))) ≡ Ok b
      by true q = in_is self p.identity (bind self v env) v b refl (test_grows o a h title r values k (bind self v env) (each_grows o a h title r values k s v) p.identity (set is) v c q b (ap (λ z. Ok z) e))
      by false (i, q, f) =
          equal_is self p.identity (bind self v env) v i refl (value_grows o a h title r values k (bind self v env) (each_grows o a h title r values k s v) p.identity i f)
          ∙ ap (λ z. Ok z) (sym (or-false (same v i)) ∙ ap (holds v) (sym q) ∙ e)

  taken_by : (n : ℕ) (ps : List Process) (vs : List Actor) → all_actors Q n ps ≡ Ok vs → Distinct vs → AllByRecursion (λ (v : Actor). IsCanonical (id v)) vs → (v : Actor) → OneOf v vs
      → (t : Taken) × Takes Q (bind self (id v) env) (numbered taken_process n ps) t × (t.routine ≡ v.own)
  taken_by n [] vs e d c v m = absurd (subst (OneOf v) (sym (ok_is e)) m)
  taken_by n (p ∷ ps) vs e d c v m =
      let (is, more, f, g, q) = all_parts Q n p ps vs e in
      by is more (identity_gives o a h title r values k p is f) g (taken_by (suc n) ps more g) (subst Distinct q d) (every_one (λ (z : Actor). IsCanonical (id z)) v vs c m) (one_either v (actors_of (process_routine n p) is) more (subst (OneOf v) q m))
    where
      by : (is : Values) (more : List Actor) → Gives o a h title r values k p.several p.identity is → all_actors Q (suc n) ps ≡ Ok more
          → (Distinct more → AllByRecursion (λ (w : Actor). IsCanonical (id w)) more → (w : Actor) → OneOf w more → (t : Taken) × Takes Q (bind self (id w) env) (numbered taken_process (suc n) ps) t × (t.routine ≡ w.own)) → Distinct (actors_of (process_routine n p) is ++ more) → IsCanonical (id v)
          → OneOf v (actors_of (process_routine n p) is) ⊎ OneOf v more → (t : Taken) × Takes Q (bind self (id v) env) (numbered taken_process n (p ∷ ps)) t × (t.routine ≡ v.own)
      by is more gives g ih d c (inl m) =
          let z = its_own (process_routine n p) is v m in
          (taken_process n p, inl (taker_test p is gives (id v) c true z.there, refl), z.own)
      by is more gives g ih d c (inr m) =
          let (t, x, y) = ih (distinct_rest (actors_of (process_routine n p) is) more d) (all_canonical (suc n) ps more g) v m in
          (t, inr (taker_test p is gives (id v) c false (ap (holds (id v)) (sym (ids_of_actors (process_routine n p) is)) ∙ apart_front (actors_of (process_routine n p) is) more d v m), x), y)

  -- ---- pc and the stack are variables

  behind : (y : Word) → is_among (declared a.globals ++ (pc ∷ stack_for (procedure_routines a))) y ≡ true → is_among (vars Q) y ≡ true
  behind y e =
      among_before ((declared a.globals ++ (pc ∷ stack_for (procedure_routines a))) ++ written_by_all Q (procedure_routines a)) (written_by_all Q (main_routines a a.main)) y
      (among_before (declared a.globals ++ (pc ∷ stack_for (procedure_routines a))) (written_by_all Q (procedure_routines a)) y e)

  pc_there : is_among (vars Q) pc ≡ true
  pc_there = behind pc (among_later (declared a.globals) (pc ∷ stack_for (procedure_routines a)) pc refl)

  stack_there : (us : List Routine) → procedure_routines a ≡ us → is_among (stack_for us) stack ≡ true → is_among (vars Q) stack ≡ true
  stack_there us e m = behind stack (among_later (declared a.globals) (pc ∷ stack_for (procedure_routines a)) stack (or_right (bytes_eq pc stack) (is_among (stack_for (procedure_routines a)) stack) (ap (λ zs. is_among (stack_for zs) stack) e ∙ m)))

  -- ---- the one body

  module _ (ss : Statements) (main : a.main ≡ alone ss) where
    abbrev one : List Actor
    one = record { self = None; own = alone_routine a ss } ∷ []

    pub lone_pc : Follows (Ok (pc_allowed Q one s)) (truth_in plain env (pc_start Q))
    lone_pc b e =
        (λ i. truth_in plain env (equal (named pc) (for_all_processes (main i) (pc_value Q (taken_main a (main i))))))
        ∙ equal_is pc (first_pc Q (record { takers = lone; routine = alone_routine a ss })) env (s pc) (label_value Q (alone_routine a ss) (first_label (alone_routine a ss))) (variable_is o a h title r values k s state pc pc_there) refl
        ∙ (λ i. Ok (own_allowed (sym main i) one (λ v. label_value Q v.own (first_label v.own)) (s pc))) ∙ e

    pub lone_stack : (us : List Routine) → procedure_routines a ≡ us → Follows (Ok (stack_allowed Q us one s)) (all_hold plain env (stack_start a.main us))
    lone_stack [] q = λ b e. e
    lone_stack (u ∷ us) q = one_holds _ _ (λ b e.
        (λ i. truth_in plain env (equal (named stack) (for_all_processes (main i) empty_tuple)))
        ∙ equal_is stack empty_tuple env (s stack) empty_stack (variable_is o a h title r values k s state stack (stack_there (u ∷ us) q refl)) refl
        ∙ (λ i. Ok (own_allowed (sym main i) one (λ v. empty_stack) (s stack))) ∙ e)

  -- ---- processes

  module _ (ps : List Process) (main : a.main ≡ processes ps) (ws : List Actor) (run : Running o a h title r values k ps ws) where
    ascending : IsAscending (ids ws)
    ascending = subst (λ zs. IsAscending (ids zs)) (sym run.ordered) (sorted_ascending run.all run.distinct)

    -- a variable of the translation with these values
    spread_own : (x : Word) → is_among (vars Q) x ≡ true → (e : Tree) (f : Actor → Value) → ((v : Actor) → OneOf v ws → (eval plain e (bind self (id v) env)).value ≡ Ok (f v))
        → Follows (Ok (own_allowed a.main ws f (s x))) (truth_in plain env (equal (named x) (for_all_processes a.main e)))
    spread_own x m e f g b q =
        (λ i. truth_in plain env (equal (named x) (for_all_processes (main i) e)))
        ∙ equal_is x (function_of_self process_set e) env (s x) (function_on ws (map f ws)) (variable_is o a h title r values k s state x m)
        (function_is process_set e env ws (map f ws) (process_set_gives o a h title r values k s ps ws main run) ascending (at_each e env f ws g))
        ∙ (λ i. Ok (own_allowed (sym main i) ws f (s x))) ∙ q

    first_labels : (v : Actor) → OneOf v ws → (eval plain (pc_value Q (taken_main a (processes ps))) (bind self (id v) env)).value ≡ Ok (label_value Q v.own (first_label v.own))
    first_labels v m =
        let (t, x, y) = taken_by (first_process a) ps run.all run.given run.distinct (all_canonical (first_process a) ps run.all run.given) v (in_sorted v run.all (subst (OneOf v) run.ordered m)) in
        pc_is Q (bind self (id v) env) (numbered taken_process (first_process a) ps) t x ∙ ap (λ u. Ok (label_value Q u (first_label u))) y

    pub all_pc : Follows (Ok (pc_allowed Q ws s)) (truth_in plain env (pc_start Q))
    all_pc = spread_own pc pc_there (pc_value Q (taken_main a a.main)) (λ v. label_value Q v.own (first_label v.own)) (λ v m. (λ i. (eval plain (pc_value Q (taken_main a (main i))) (bind self (id v) env)).value) ∙ first_labels v m)

    pub all_stack : (us : List Routine) → procedure_routines a ≡ us → Follows (Ok (stack_allowed Q us ws s)) (all_hold plain env (stack_start a.main us))
    all_stack [] q = λ b e. e
    all_stack (u ∷ us) q = one_holds _ _ (spread_own stack (stack_there (u ∷ us) q refl) empty_tuple (λ v. empty_stack) (λ v m. refl))
