-- The assignments written for a jump, a return and a call do what these do.
use Rattle.std.proofs.Common.{◌≡◌, List, [], ◌∷◌, ◌++◌, refl, sym, ◌∙◌, ap, Ok, Err}
use Rattle.std.specs.Prelude.{codes}
use Rattle.tla_token.specs.declared.place.Place.{Place}
use Rattle.tla_tree.specs.Tree.{Word, Tree, Each, select}
use Rattle.tla_value.specs.Value.{Value, text, Outcome, ◌>>=◌}
use Rattle.tla_value.specs.Order.{seq_from}
use Rattle.tla_value.specs.Stops.{Check, plain, sequence_at}
use Rattle.tla_value.specs.Strict.{applied, strict_value}
use Rattle.tla_value.specs.Standard.{headed, tailed}
use Rattle.tla_value.specs.Meaning.{called, part_values, eval}
use Rattle.pcal_tree.specs.Algorithm.{Routine, locals}
use Rattle.pcal_tree.specs.Scope.{State, Scope, value_of}
use Rattle.pcal_tree.specs.Assign.{Setting, set_one, set_all, settings, after_assignments}
use Rattle.pcal_tree.specs.Run.{ends, after, Rules, unlabelled, run}
use Rattle.pcal_tree.specs.Program.{Program, Actor, index, local_index, read_at}
use Rattle.pcal_tree.specs.Calls.{setting, on_stack, fields_read, part_settings, restored, returned, finished}
use Rattle.action_builder.specs.laws.Settling.{to_end}
use Rattle.action_builder.specs.Jumps.{name_at, text_at, one_assignment, jump_written, kept_field, stack_rest, fields_restored, return_assignments}
use Rattle.action_builder.specs.laws.Scopes.{StandsAtPath}
use Rattle.action_builder.specs.laws.Jumps.{RoutineStands}
use Rattle.tla_value.proofs.Outcomes.{then_ok, then_then}
use Rattle.action_builder.proofs.Denotations.{on_both}
use Rattle.pcal_tree.specs.Variables.{written_all, pc, stack}

pub after_end : (o : Outcome State) → after o (λ u. ends u) ≡ finished o
after_end (Ok u) = refl
after_end (Err k) = refl

-- ---- a jump

-- one assignment, to a name that is at a path
pub one_assigned : (c : Check) (at : Place) (x : Word) (path : List Value) (e : Tree) (sc : Scope) → StandsAtPath sc path x → (s : State)
    → after_assignments c (one_assignment (name_at at x) e) sc s ≡ (value_of c e sc s) >>= (λ w. set_one c (setting at x path w) s)
one_assigned c at x path e sc h s =
    (λ i. (((h at s).0 i) >>= (λ p. (value_of c e sc s) >>= (λ w. Ok (record { place = at; part = p; value = w } ∷ [])))) >>= (λ all. set_all c all s))
    ∙ then_then (value_of c e sc s) (λ w. Ok (setting at x path w ∷ [])) (λ all. set_all c all s)
    ∙ (λ i. (value_of c e sc s) >>= (λ w. then_ok (set_one c (setting at x path w) s) i))

pub pc_law : (M : Rules) (P : Program) (v : Actor) (at : Place) (l : Word) (sc : Scope) → StandsAtPath sc (index v.self) pc → (s : State) → M.check ≡ P.check → run M unlabelled (jump_written at l) sc to_end s ≡ finished (set_one P.check (setting at pc (index v.self) (text l)) s)
pc_law M P v at l sc h s q =
    after_end (after_assignments M.check (one_assignment (name_at at pc) (text_at at l)) sc s)
    ∙ ap finished (one_assigned M.check at pc (index v.self) (text_at at l) sc h s)
    ∙ (λ i. finished (set_one (q i) (setting at pc (index v.self) (text l)) s))

-- ---- a return

-- of the records on the stack
pub field_law : (P : Program) (v : Actor) (p : Routine) (sc : Scope) → RoutineStands P v p sc → (at : Place) (x : Word) (s : State)
    → (eval P.check (kept_field at x) (sc.env s)).value ≡ (on_stack v at s) >>= (λ frames. (headed at frames) >>= (λ front. applied at front (text x)))
field_law P v p sc m at x s =
    then_then (part_values ((λ e. e.now stack at) ∷ []) (sc.env s) >>= (λ us. (called at ((sc.env s).defs (codes "Head")) us).value)) (λ f. Ok (f ∷ [])) (strict_value P.check (select x) at)
    ∙ (λ i. then_then ((sc.env s).now stack at).value (λ st. Ok (st ∷ [])) (λ us. (called at ((sc.env s).defs (codes "Head")) us).value) i >>= (λ f. applied at f (text x)))
    ∙ (λ i. (((sc.env s).now stack at).value >>= (λ st. (called at (m.head s i) (st ∷ [])).value)) >>= (λ f. applied at f (text x)))
    ∙ (λ i. (((m.stack at s).1 i).value >>= (λ st. sequence_at at st >>= headed at)) >>= (λ f. applied at f (text x)))
    ∙ (λ i. (sym (then_then (read_at at (index v.self) (s stack)) (sequence_at at) (headed at)) i) >>= (λ f. applied at f (text x)))
    ∙ then_then (on_stack v at s) (headed at) (λ f. applied at f (text x))

pub rest_law : (P : Program) (v : Actor) (p : Routine) (sc : Scope) → RoutineStands P v p sc → (at : Place) (s : State)
    → (eval P.check (stack_rest at) (sc.env s)).value ≡ (on_stack v at s) >>= (tailed P.check at)
rest_law P v p sc m at s =
    then_then ((sc.env s).now stack at).value (λ st. Ok (st ∷ [])) (λ us. (called at ((sc.env s).defs (codes "Tail")) us).value)
    ∙ (λ i. ((sc.env s).now stack at).value >>= (λ st. (called at (m.tail s i) (st ∷ [])).value))
    ∙ (λ i. ((m.stack at s).1 i).value >>= (λ st. sequence_at at st >>= tailed P.check at))
    ∙ sym (then_then (read_at at (index v.self) (s stack)) (sequence_at at) (tailed P.check at))

-- the assignments of the kept values and of the stack, which is known to hold these records
own_law : (P : Program) (v : Actor) (p : Routine) (sc : Scope) → RoutineStands P v p sc → P.check ≡ plain → (at : Place) (s : State) (front : Value) (frames : List Value) → on_stack v at s ≡ Ok (front ∷ frames) → (xs : List Word) → Each (StandsAtPath sc (local_index v p)) xs
    → settings P.check (fields_restored at xs (one_assignment (name_at at stack) (stack_rest at))) sc s ≡ (fields_read at xs front) >>= (λ vs. Ok (part_settings at (local_index v p) xs vs ++ (setting at stack (index v.self) (seq_from frames) ∷ [])))
own_law P v p sc m q at s front frames h [] e =
    (λ i. ((m.stack at s).0 i) >>= (λ r. (rest_law P v p sc m at s i) >>= (λ w. Ok (record { place = at; part = r; value = w } ∷ []))))
    ∙ (λ i. ((h i) >>= (tailed P.check at)) >>= (λ w. Ok (setting at stack (index v.self) w ∷ [])))
    ∙ (λ i. (q i at (seq_from frames)) >>= (λ w. Ok (setting at stack (index v.self) w ∷ [])))
own_law P v p sc m q at s front frames h (x ∷ xs) e =
    (λ i. ((e.0 at s).0 i) >>= (λ r. (field_law P v p sc m at x s i) >>= (λ w. others >>= (λ rest. Ok (record { place = at; part = r; value = w } ∷ rest)))))
    ∙ (λ i. ((h i) >>= (λ fs. (headed at fs) >>= (λ f. applied at f (text x)))) >>= (λ w. others >>= (λ rest. Ok (setting at x (local_index v p) w ∷ rest))))
    ∙ (λ i. (applied at front (text x)) >>= (λ w. (own_law P v p sc m q at s front frames h xs e.1 i) >>= (λ rest. Ok (setting at x (local_index v p) w ∷ rest))))
    ∙ (λ i. (applied at front (text x)) >>= (λ w. then_then (fields_read at xs front) (λ vs. Ok (kept vs)) (λ rest. Ok (setting at x (local_index v p) w ∷ rest)) i))
    ∙ sym (on_both (applied at front (text x)) (λ w. fields_read at xs front) (λ w vs. w ∷ vs) (λ vs. Ok (part_settings at (local_index v p) (x ∷ xs) vs ++ (setting at stack (index v.self) (seq_from frames) ∷ []))))
  where
    others : Outcome (List Setting)
    others = settings P.check (fields_restored at xs (one_assignment (name_at at stack) (stack_rest at))) sc s

    kept : List Value → List Setting
    kept vs = part_settings at (local_index v p) xs vs ++ (setting at stack (index v.self) (seq_from frames) ∷ [])

-- the assignment of a return, kinds and places of faults included
pub return_law : (P : Program) (v : Actor) (p : Routine) (sc : Scope) → RoutineStands P v p sc → P.check ≡ plain → (at : Place) (s : State) → after_assignments P.check (return_assignments P p at) sc s ≡ returned P v at p s
return_law P v p sc m q at s = first ∙ by (on_stack v at s) refl
  where
    others : Outcome (List Setting)
    others = settings P.check (fields_restored at (written_all P p (locals p)) (one_assignment (name_at at stack) (stack_rest at))) sc s

    go : Value → Outcome State
    go w = others >>= (λ rest. set_all P.check (setting at pc (index v.self) w ∷ rest) s)

    first : after_assignments P.check (return_assignments P p at) sc s ≡ ((on_stack v at s) >>= (λ frames. (headed at frames) >>= (λ front. applied at front (text pc)))) >>= go
    first =
        (λ i. (((m.pc at s).0 i) >>= (λ r. (field_law P v p sc m at pc s i) >>= (λ w. others >>= (λ rest. Ok (record { place = at; part = r; value = w } ∷ rest))))) >>= (λ all. set_all P.check all s))
        ∙ on_both ((on_stack v at s) >>= (λ frames. (headed at frames) >>= (λ front. applied at front (text pc)))) (λ w. others) (λ w rest. setting at pc (index v.self) w ∷ rest) (λ all. set_all P.check all s)

    kept : List Value → List Value → List Setting
    kept frames vs = part_settings at (local_index v p) (written_all P p (locals p)) vs ++ (setting at stack (index v.self) (seq_from frames) ∷ [])

    by : (o : Outcome (List Value)) → on_stack v at s ≡ o → ((on_stack v at s) >>= (λ frames. (headed at frames) >>= (λ front. applied at front (text pc)))) >>= go ≡ returned P v at p s
    by (Ok []) e =
        (λ i. ((e i) >>= (λ frames. (headed at frames) >>= (λ front. applied at front (text pc)))) >>= go)
        ∙ sym (λ i. (e i) >>= (λ frames. restored P v at p frames s))
    by (Ok (front ∷ frames)) e =
        (λ i. ((e i) >>= (λ frames. (headed at frames) >>= (λ front. applied at front (text pc)))) >>= go)
        ∙ (λ i. (applied at front (text pc)) >>= (λ w. (own_law P v p sc m q at s front frames e (written_all P p (locals p)) m.own i) >>= (λ rest. set_all P.check (setting at pc (index v.self) w ∷ rest) s)))
        ∙ (λ i. (applied at front (text pc)) >>= (λ w. then_then (fields_read at (written_all P p (locals p)) front) (λ vs. Ok (kept frames vs)) (λ rest. set_all P.check (setting at pc (index v.self) w ∷ rest) s) i))
        ∙ sym (λ i. (e i) >>= (λ frames. restored P v at p frames s))
    by (Err k) e =
        (λ i. ((e i) >>= (λ frames. (headed at frames) >>= (λ front. applied at front (text pc)))) >>= go)
        ∙ sym (λ i. (e i) >>= (λ frames. restored P v at p frames s))
