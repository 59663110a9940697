-- The assignments written for a call have the ends of the call, and trouble where it has trouble.
use Rattle.std.proofs.Common.{◌≡◌, true, List, [], ◌∷◌, ◌++◌, ◌⊎◌, refl, sym, ◌∙◌, ap, subst, inl, inr, ⊎_elim, Ok, Err}
use Rattle.std.specs.Option.{ok_or}
use Rattle.tla_tree.specs.declared.op.Op.TheVariants.{Concat}
use Rattle.tla_token.specs.declared.place.Place.{Place}
use Rattle.tla_tree.specs.Tree.{Word, Each, name, Tree, node, Trees, no_trees, tree, operator, tuple, fields, root_place}
use Rattle.tla_value.specs.Value.{Value, text, Trouble, Outcome, ◌>>=◌, IsBad, fault}
use Rattle.tla_value.specs.Order.{seq_from}
use Rattle.tla_value.specs.Stops.{Check, plain, sequence_at}
use Rattle.tla_value.specs.Meaning.{eval, evals, part_values}
use Rattle.tla_value.specs.declared.fault.FaultKind.TheVariants.{NotSequence}
use Rattle.tla_value.proofs.OrderFuns.{sequence_of_seq}
use Rattle.tla_value.specs.Strict.{strict_value}
use Rattle.pcal_tree.specs.Algorithm.{Declaration, Routine, locals, Assignments, Statements, then, assign}
use Rattle.pcal_tree.specs.Scope.{State, Scope, place_of, places_of, value_of}
use Rattle.pcal_tree.specs.Assign.{Setting, set_one, set_all, settings, after_assignments}
use Rattle.pcal_tree.specs.Run.{Has, after, Rules, unlabelled, run}
use Rattle.pcal_tree.specs.Program.{Program, Actor, index, local_index, read_at, written}
use Rattle.pcal_tree.specs.Calls.{setting, initial_value, initial_place, all_read, frame, on_stack, argument_settings, variables_started, entered, label_value, label_name, first_label, finished, frame_fields}
use Rattle.action_builder.specs.laws.Settling.{to_end, Close}
use Rattle.action_builder.specs.Jumps.{name_at, spot, one_assignment, jump_written, names_at, stack_pushed, arguments_assigned, variables_written, call_written}
use Rattle.action_builder.specs.laws.Scopes.{StandsAtPath}
use Rattle.action_builder.specs.laws.Jumps.{RoutineStands, Initials, as_many}
use Rattle.action_builder.proofs.Denotations.{on_both}
use Rattle.tla_value.specs.laws.Places.{AgreeButPlaces}
use Rattle.module_tree.proofs.OutcomesAlike.{same_refl, then_same}
use Rattle.action_builder.proofs.AnyPlace.{set_same}
use Rattle.action_builder.proofs.Settle.{close_refl}
use Rattle.action_builder.proofs.Jumps.{one_assigned, pc_law}
use Rattle.tla_value.proofs.Outcomes.{then_two, then_ok, then_then}
use Rattle.pcal_tree.specs.Variables.{written_all, pc, stack}

-- ---- the same result, or neither has one

abbrev pub Alike : Outcome State → Outcome State → Type 0
Alike a b = (a ≡ b) ⊎ (IsBad a × IsBad b)

has_is : (x r : Outcome State) → Has (finished x) r ≡ (r ≡ x)
has_is (Ok t) r = refl
has_is (Err k) r = refl

no_end : {P : Type 0} (x : Outcome State) (u : State) → IsBad x → Ok u ≡ x → P
no_end x u h e = absurd (subst IsBad (sym e) h)

close_is : (x y : Outcome State) → Alike x y → Close (λ r. r ≡ x) (λ r. r ≡ y)
close_is x y h = ⊎_elim
    (λ e. subst (λ z. Close (λ r. r ≡ x) (λ r. r ≡ z)) e (close_refl (λ r. r ≡ x)))
    (λ b. record {
      ends = λ u. (λ e. no_end x u b.0 e, λ e. no_end y u b.1 e);
      faults = (λ z. (y, b.1, refl), λ z. (x, b.0, refl));
    }) h

pub close_finished : (x y : Outcome State) → Alike x y → Close (Has (finished x)) (Has (finished y))
close_finished x y h = subst (λ F. Close F (Has (finished y))) (λ i r. sym (has_is x r) i) (subst (λ F. Close (λ r. r ≡ x) F) (λ i r. sym (has_is y r) i) (close_is x y h))

pub alike_of : (x y : Outcome State) → AgreeButPlaces x y → Alike x y
alike_of (Ok t) (Ok u) h = inl (ap Ok h)
alike_of (Ok t) (Err j) h = absurd h
alike_of (Err k) (Ok u) h = absurd h
alike_of (Err k) (Err j) h = inr (tt, tt)

pub alike_trans : (x y z : Outcome State) → Alike x y → Alike y z → Alike x z
alike_trans x y z (inl e) h = subst (λ w. Alike w z) (sym e) h
alike_trans x y z (inr b) (inl e) = inr (b.0, subst IsBad e b.1)
alike_trans x y z (inr b) (inr d) = inr (b.0, d.1)

-- ---- assignments in a row

pub after_finished : {X : Type 0} (o : Outcome X) (f : X → Outcome State) → after o (λ x. finished (f x)) ≡ finished (o >>= f)
after_finished (Ok x) f = refl
after_finished (Err k) f = refl

pub assign_is : (M : Rules) (at : Place) (ms : Assignments) (rest : Statements) (sc : Scope) (f : State → Outcome State) → ((s : State) → run M unlabelled rest sc to_end s ≡ finished (f s)) → (s : State) → run M unlabelled (then (spot at) (assign ms) rest) sc to_end s ≡ finished ((after_assignments M.check ms sc s) >>= f)
assign_is M at ms rest sc f h s = (λ i. after (after_assignments M.check ms sc s) (λ u. h u i)) ∙ after_finished (after_assignments M.check ms sc s) f

-- what the written initial values set, each reading what was set before
abbrev pub written_started : Program → Actor → Routine → Scope → (Declaration → Place) → (Declaration → Tree) → List Declaration → State → Outcome State
written_started P v p sc place initial [] s = Ok s
written_started P v p sc place initial (d ∷ ds) s = do
  w ← value_of P.check (initial d) sc s
  u ← set_one P.check (setting (place d) (written P p d.name.word) (local_index v p) w) s
  written_started P v p sc place initial ds u

pub started_law : (M : Rules) (P : Program) (v : Actor) (p : Routine) (sc : Scope) (place : Declaration → Place) (initial : Declaration → Tree) → M.check ≡ P.check → (ds : List Declaration) → Each (StandsAtPath sc (local_index v p)) (written_all P p ds) → (last : Statements) (f : State → Outcome State) → ((s : State) → run M unlabelled last sc to_end s ≡ finished (f s)) → (s : State) → run M unlabelled (variables_written P p place initial ds last) sc to_end s ≡ finished ((written_started P v p sc place initial ds s) >>= f)
started_law M P v p sc place initial q [] e last f h s = h s
started_law M P v p sc place initial q (d ∷ ds) e last f h s =
    assign_is M (place d) (one_assignment (name_at (place d) (written P p d.name.word)) (initial d)) (variables_written P p place initial ds last) sc (λ u. (written_started P v p sc place initial ds u) >>= f) (started_law M P v p sc place initial q ds e.1 last f h) s
    ∙ (λ i. finished ((one_assigned (q i) (place d) (written P p d.name.word) (local_index v p) (initial d) sc e.0 s i) >>= (λ u. (written_started P v p sc place initial ds u) >>= f)))
    ∙ ap finished (
    then_then start set (λ u. (written_started P v p sc place initial ds u) >>= f)
    ∙ (λ i. start >>= (λ w. sym (then_then (set w) (λ u. written_started P v p sc place initial ds u) f) i))
    ∙ sym (then_then start (λ w. (set w) >>= (λ u. written_started P v p sc place initial ds u)) f))
  where
    start : Outcome Value
    start = value_of P.check (initial d) sc s

    set : Value → Outcome State
    set w = set_one P.check (setting (place d) (written P p d.name.word) (local_index v p) w) s

pub started_same : (P : Program) (v : Actor) (p : Routine) (at : Place) (sc : Scope) (place : Declaration → Place) (initial : Declaration → Tree) → P.check ≡ plain → (ds : List Declaration) → Initials P v p at sc initial ds → (s : State) → AgreeButPlaces (written_started P v p sc place initial ds s) (variables_started P v p at ds s)
started_same P v p at sc place initial c [] k s = refl
started_same P v p at sc place initial c (d ∷ ds) k s =
    then_same (value_of P.check (initial d) sc s) (initial_value P v p at d.start s) _ _ (k.0 s) (λ w.
    then_same _ _ _ _ (set_same P.check c (place d) (initial_place at d.start) (written P p d.name.word) (local_index v p) w s) (λ u. started_same P v p at sc place initial c ds k.1 u))

-- ---- arguments

place_is : (t : Tree) (sc : Scope) → ((x : Word) (at : Place) → sc.origin x at ≡ at) → root_place t ≡ place_of t sc
place_is (node (name x) at ts) sc o = sym (o x at)
place_is (node m at ts) sc o = refl

pub arguments_law : (c : Check) (path : List Value) (sc : Scope) → ((x : Word) (at : Place) → sc.origin x at ≡ at) → (xs : List Word) (ts : Trees) → as_many xs ts ≡ true → Each (StandsAtPath sc path) xs → (s : State) → settings c (arguments_assigned xs ts) sc s ≡ (part_values (evals c ts) (sc.env s)) >>= (λ vs. Ok (argument_settings path xs (places_of ts sc) vs))
arguments_law c path sc o [] no_trees m e s = refl
arguments_law c path sc o [] (tree t ts) m e s = cc
arguments_law c path sc o (x ∷ xs) no_trees m e s = cc
arguments_law c path sc o (x ∷ xs) (tree t ts) m e s =
    (λ i. ((e.0 (root_place t) s).0 i) >>= (λ r. (value_of c t sc s) >>= (λ w. (settings c (arguments_assigned xs ts) sc s) >>= (λ rest. Ok (record { place = place_is t sc o i; part = r; value = w } ∷ rest)))))
    ∙ (λ i. (value_of c t sc s) >>= (λ w. (arguments_law c path sc o xs ts m e.1 s i) >>= (λ rest. Ok (setting (place_of t sc) x path w ∷ rest))))
    ∙ (λ i. (value_of c t sc s) >>= (λ w. then_then (part_values (evals c ts) (sc.env s)) (λ vs. Ok (argument_settings path xs (places_of ts sc) vs)) (λ rest. Ok (setting (place_of t sc) x path w ∷ rest)) i))
    ∙ sym (on_both (value_of c t sc s) (λ w. part_values (evals c ts) (sc.env s)) (λ w vs. w ∷ vs) (λ vs. Ok (argument_settings path (x ∷ xs) (place_of t sc ∷ places_of ts sc) vs)))

-- ---- the new stack

pub names_law : (path : List Value) (sc : Scope) (at : Place) (xs : List Word) → Each (StandsAtPath sc path) xs → (s : State) → part_values (evals plain (names_at at xs)) (sc.env s) ≡ all_read at path xs s
names_law path sc at [] e s = refl
names_law path sc at (x ∷ xs) e s = λ i. ((e.0 at s).1 i).value >>= (λ w. names_law path sc at xs e.1 s i >>= (λ ws. Ok (w ∷ ws)))

-- <<front>> \o stack
abbrev pub put_before : Place → Value → Value → Outcome Value
put_before at a b = (sequence_at at a >>= (λ xs. sequence_at at b >>= (λ ys. Ok (seq_from (xs ++ ys))))) >>= (plain at)

before_law : (v : Actor) (sc : Scope) → StandsAtPath sc (index v.self) stack → (at : Place) (s : State) (front : Value) → ((sc.env s).now stack at).value >>= (put_before at (seq_from (front ∷ []))) ≡ (on_stack v at s) >>= (λ frames. Ok (seq_from (front ∷ frames)))
before_law v sc h at s front =
    (λ i. ((h at s).1 i).value >>= (λ b. (ok_or (sequence_of_seq (front ∷ []) i) (fault NotSequence at) >>= (λ xs. sequence_at at b >>= (λ ys. Ok (seq_from (xs ++ ys))))) >>= (plain at)))
    ∙ (λ i. (read_at at (index v.self) (s stack)) >>= (λ b. then_ok (sequence_at at b >>= (λ ys. Ok (seq_from (front ∷ ys)))) i))
    ∙ sym (then_then (read_at at (index v.self) (s stack)) (sequence_at at) (λ ys. Ok (seq_from (front ∷ ys))))

-- what the new stack is of the kept values and the old one
abbrev pushed : Program → Routine → Place → Word → Outcome (List Value) → Outcome Value → Outcome Value
pushed P p at back olds old =
    let fields_of = ((olds >>= (λ ws. Ok (text back ∷ ws))) >>= (λ ws. Ok (text (P.naming.title p.number) ∷ ws))) >>= strict_value plain (fields (frame_fields P p)) at in
    let front = (fields_of >>= (λ f. Ok (f ∷ []))) >>= strict_value plain tuple at in
    (front >>= (λ a. (old >>= (λ b. Ok (b ∷ []))) >>= (λ rest. Ok (a ∷ rest)))) >>= strict_value plain (operator Concat) at

pushed_is : (P : Program) (p : Routine) (at : Place) (back : Word) (olds : Outcome (List Value)) (old : Outcome Value) → pushed P p at back olds old ≡ olds >>= (λ ws. old >>= (put_before at (seq_from (frame P p (text back) ws ∷ []))))
pushed_is P p at back (Ok ws) old = then_two (Ok (seq_from (frame P p (text back) ws ∷ []))) old (strict_value plain (operator Concat) at)
pushed_is P p at back (Err k) old = refl

pushed_law : (P : Program) (v : Actor) (p : Routine) (sc : Scope) → RoutineStands P v p sc → (at : Place) (back : Word) (s : State) → (eval plain (stack_pushed P p at back) (sc.env s)).value ≡ (all_read at (local_index v p) (written_all P p (locals p)) s) >>= (λ olds. (on_stack v at s) >>= (λ frames. Ok (seq_from (frame P p (text back) olds ∷ frames))))
pushed_law P v p sc m at back s =
    (λ i. pushed P p at back (names_law (local_index v p) sc at (written_all P p (locals p)) m.own s i) ((sc.env s).now stack at).value)
    ∙ pushed_is P p at back (all_read at (local_index v p) (written_all P p (locals p)) s) ((sc.env s).now stack at).value
    ∙ (λ i. (all_read at (local_index v p) (written_all P p (locals p)) s) >>= (λ olds. before_law v sc m.stack at s (frame P p (text back) olds) i))

-- ---- the order of evaluation

then_bad : {X : Type 0} (o : Outcome X) (k : Trouble) → IsBad (◌>>=◌ {Y = State} o (λ x. Err k))
then_bad (Ok x) k = tt
then_bad (Err j) k = tt

pub swap : {X : Type 0} (o : Outcome Value) (p : Outcome X) (F : Value → X → Outcome State) → Alike (o >>= (λ w. p >>= (F w))) (p >>= (λ x. o >>= (λ w. F w x)))
swap (Ok w) p F = inl refl
swap (Err k) p F = inr (tt, then_bad p k)

pub each_parts : (Q : Word → Type 0) (P : Program) (p : Routine) (ds es : List Declaration) → Each Q (written_all P p (ds ++ es)) → Each Q (written_all P p ds) × Each Q (written_all P p es)
each_parts Q P p [] es h = (tt, h)
each_parts Q P p (d ∷ ds) es h = let r = each_parts Q P p ds es h.1 in ((h.0, r.0), r.1)

-- what follows the assignment of the stack and the parameters
abbrev pub tail_of : Program → Actor → Routine → Place → State → Outcome State
tail_of P v p at u = (variables_started P v p at p.variables u) >>= (set_one P.check (setting at pc (index v.self) (label_value P p (first_label p))))

abbrev pub written_tail : Program → Actor → Routine → Place → Scope → (Declaration → Place) → (Declaration → Tree) → State → Outcome State
written_tail P v p at sc place initial u = (written_started P v p sc place initial p.variables u) >>= (set_one P.check (setting at pc (index v.self) (label_value P p (first_label p))))

abbrev all_set : Program → Actor → Routine → Place → Trees → Scope → (State → Outcome State) → State → Value → List Value → Outcome State
all_set P v p at ts sc tail s w vs = (set_all P.check (setting at stack (index v.self) w ∷ argument_settings (local_index v p) (written_all P p p.params) (places_of ts sc) vs) s) >>= tail

-- the law
pub call_law : (M : Rules) (P : Program) (v : Actor) (p : Routine) (at : Place) (ts : Trees) (back : Word) (place : Declaration → Place) (initial : Declaration → Tree) (sc : Scope) → M.check ≡ P.check → P.check ≡ plain → RoutineStands P v p sc → as_many (written_all P p p.params) ts ≡ true → Initials P v p at sc initial p.variables → (s : State) →
    Close (Has (run M unlabelled (call_written P p at ts back place initial) sc to_end s)) (Has (after (part_values (evals P.check ts) (sc.env s)) (λ vs. finished (entered P v at (text back) p (places_of ts sc) vs s))))
call_law M P v p at ts back place initial sc q c m many k s =
    subst (λ z. Close (Has z) (Has (after values (λ vs. finished (entered P v at (text back) p (places_of ts sc) vs s))))) (sym left)
    (subst (λ z. Close (Has (finished (pushed >>= (λ w. values >>= (all_set P v p at ts sc written_rest s w))))) (Has z)) (sym (after_finished values (λ vs. entered P v at (text back) p (places_of ts sc) vs s)))
    (subst (λ z. Close (Has (finished (pushed >>= (λ w. values >>= (all_set P v p at ts sc written_rest s w))))) (Has (finished z))) right
    (close_finished _ _ (alike_trans _ _ _ (alike_of _ _ same) (swap pushed values (all_set P v p at ts sc (tail_of P v p at) s))))))
  where
    values : Outcome (List Value)
    values = part_values (evals P.check ts) (sc.env s)

    pushed : Outcome Value
    pushed = (eval P.check (stack_pushed P p at back) (sc.env s)).value

    args : Assignments
    args = arguments_assigned (written_all P p p.params) ts

    first : Value → Setting
    first w = setting at stack (index v.self) w

    given : List Value → List Setting
    given vs = argument_settings (local_index v p) (written_all P p p.params) (places_of ts sc) vs

    written_rest : State → Outcome State
    written_rest = written_tail P v p at sc place initial

    same : AgreeButPlaces (pushed >>= (λ w. values >>= (all_set P v p at ts sc written_rest s w))) (pushed >>= (λ w. values >>= (all_set P v p at ts sc (tail_of P v p at) s w)))
    same = then_same pushed pushed _ _ (same_refl pushed) (λ w. then_same values values _ _ (same_refl values) (λ vs.
        then_same _ _ _ _ (same_refl (set_all P.check (first w ∷ given vs) s)) (λ t.
        then_same _ _ _ _ (started_same P v p at sc place initial c p.variables k t) (λ u. same_refl (set_one P.check (setting at pc (index v.self) (label_value P p (first_label p))) u)))))

    own : Each (StandsAtPath sc (local_index v p)) (written_all P p p.params) × Each (StandsAtPath sc (local_index v p)) (written_all P p p.variables)
    own = each_parts (StandsAtPath sc (local_index v p)) P p p.params p.variables m.own

    left : run M unlabelled (call_written P p at ts back place initial) sc to_end s ≡ finished (pushed >>= (λ w. values >>= (all_set P v p at ts sc written_rest s w)))
    left =
        assign_is M at (Rattle.pcal_tree.specs.Algorithm.assignment (name_at at stack) (stack_pushed P p at back) args) (variables_written P p place initial p.variables (jump_written at (label_name P p (first_label p)))) sc written_rest
        (started_law M P v p sc place initial q p.variables own.1 (jump_written at (label_name P p (first_label p))) (set_one P.check (setting at pc (index v.self) (label_value P p (first_label p)))) (λ u. pc_law M P v at (label_name P p (first_label p)) sc m.pc u q)) s
        ∙ (λ i. finished (((((m.stack at s).0 i) >>= (λ r. (value_of (q i) (stack_pushed P p at back) sc s) >>= (λ w. (settings (q i) args sc s) >>= (λ rest. Ok (record { place = at; part = r; value = w } ∷ rest))))) >>= (λ all. set_all (q i) all s)) >>= written_rest))
        ∙ (λ i. finished ((on_both pushed (λ w. settings P.check args sc s) (λ w rest. first w ∷ rest) (λ all. set_all P.check all s) i) >>= written_rest))
        ∙ ap finished (then_then pushed (λ w. (settings P.check args sc s) >>= (λ rest. set_all P.check (first w ∷ rest) s)) written_rest)
        ∙ (λ i. finished (pushed >>= (λ w. ((arguments_law P.check (local_index v p) sc m.origin (written_all P p p.params) ts many own.0 s i) >>= (λ rest. set_all P.check (first w ∷ rest) s)) >>= written_rest)))
        ∙ (λ i. finished (pushed >>= (λ w. (then_then values (λ vs. Ok (given vs)) (λ rest. set_all P.check (first w ∷ rest) s) i) >>= written_rest)))
        ∙ (λ i. finished (pushed >>= (λ w. then_then values (λ vs. set_all P.check (first w ∷ given vs) s) written_rest i)))

    right : values >>= (λ vs. pushed >>= (λ w. all_set P v p at ts sc (tail_of P v p at) s w vs)) ≡ values >>= (λ vs. entered P v at (text back) p (places_of ts sc) vs s)
    right =
        (λ i. values >>= (λ vs. (eval (c i) (stack_pushed P p at back) (sc.env s)).value >>= (λ w. all_set P v p at ts sc (tail_of P v p at) s w vs)))
        ∙ (λ i. values >>= (λ vs. (pushed_law P v p sc m at back s i) >>= (λ w. all_set P v p at ts sc (tail_of P v p at) s w vs)))
        ∙ (λ i. values >>= (λ vs. on_both (all_read at (local_index v p) (written_all P p (locals p)) s) (λ olds. on_stack v at s) (λ olds frames. seq_from (frame P p (text back) olds ∷ frames)) (λ w. all_set P v p at ts sc (tail_of P v p at) s w vs) i))
        ∙ sym (λ i. values >>= (λ vs.
        (all_read at (local_index v p) (written_all P p (locals p)) s) >>= (λ olds.
        (c i at (frame P p (text back) olds)) >>= (λ front.
        (on_stack v at s) >>= (λ frames.
        (c i at (seq_from (front ∷ frames))) >>= (λ new. all_set P v p at ts sc (tail_of P v p at) s new vs))))))
