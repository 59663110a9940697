-- Where a process of an accepted algorithm is in trouble, in a state of canonical values, Next of its region is a fault for some second state of canonical values; and so these agree.
use Rattle.std.proofs.Common.{◌≡◌, ◌↔◌, List, [], ◌∷◌, ◌++◌, map, Bool, true, false, cond, Option, Some, None, inl, inr, refl, sym, ap, ◌∙◌, subst, Ok, Err}
use Rattle.std.specs.Option.{ok_or}
use Rattle.tla_token.specs.declared.place.Place.{Place}
use Rattle.tla_token.specs.Places.{nowhere}
use Rattle.tla_tree.specs.Tree.{Word, Tree, operator, apply, name, no_trees, grafted_name, root_place}
use Rattle.tla_tree.specs.declared.op.Op.TheVariants.{Equal}
use Rattle.tla_value.specs.declared.fault.FaultKind.TheVariants.{NotInDomain}
use Rattle.tla_value.specs.Value.{Value, truth, int, text, model, set, fun, Trouble, Outcome, fault, ◌>>=◌, IsBad, and_then}
use Rattle.tla_value.specs.Order.{found_at}
use Rattle.tla_value.specs.OrderLaws.{same_self}
use Rattle.tla_value.specs.Outside.{Outside}
use Rattle.tla_value.specs.Stops.{plain, members_at, truth_at}
use Rattle.tla_value.specs.Strict.{applied, strict_value}
use Rattle.tla_value.specs.Meaning.{Env, just, bind, eval}
use Rattle.tla_value.specs.Grafts.{own_part}
use Rattle.tla_value.specs.Definitions.{Valuation, scope_of}
use Rattle.tla_value.proofs.CanonicalTests.{value_kept, means_its_value}
use Rattle.tla_value.proofs.Outcomes.{ok_is}
use Rattle.module_tree.specs.Formulas.{self, named}
use Rattle.module_tree.specs.Module.{call, call_with, Way, one_way, Module}
use Rattle.module_tree.specs.ModuleTruth.{next_holds}
use Rattle.module_tree.specs.ActionTruth.{Verdict, Acts, acted, truth_in, items_hold, some_member, way_holds, some_way_holds}
use Rattle.pcal_tree.specs.Algorithm.{Statements, Process, Main, alone, processes, Routine, alone_routine, procedure_routines, main_routines, Algorithm}
use Rattle.pcal_tree.specs.Calls.{label_name, label_value}
use Rattle.pcal_tree.specs.Faults.{Troubled}
use Rattle.pcal_tree.specs.InitialStates.{running}
use Rattle.pcal_tree.specs.OffencesLabels.{label_words}
use Rattle.pcal_tree.specs.Processes.{OneOf, identifier, actors_in, actors, IsActor, Proper}
use Rattle.pcal_tree.specs.Program.{Program, Actor, index, read_at}
use Rattle.pcal_tree.specs.Programs.{program_in}
use Rattle.pcal_tree.specs.Run.{unlabelled}
use Rattle.pcal_tree.specs.Scope.{State}
use Rattle.pcal_tree.specs.Step.{pc_of, routines_of}
use Rattle.pcal_tree.specs.StepStart.{Begin, at_label}
use Rattle.pcal_tree.specs.Takers.{Takers, each_of, single, lone, Taken, taken_main}
use Rattle.pcal_tree.specs.Variables.{pc, vars, on_variables}
use Rattle.pcal_tree.proofs.BodyLabels.{same_labels}
use Rattle.pcal_tree.proofs.OneStand.{own_is_main}
use Rattle.pcal_tree.proofs.ProcessesInOrder.{id, ids}
use Rattle.pcal_tree.proofs.TroubleLaws.{one_left, one_right, label_listed}
use Rattle.action_builder.specs.LabelActions.{procedure_takers, at_test, items_by, items_from, label_action, title_of}
use Rattle.action_builder.specs.NextFormula.{own_way, main_ways}
use Rattle.action_builder.specs.OwnVariables.{is_own_variable}
use Rattle.action_builder.specs.WrittenNames.{with_names}
use Rattle.action_builder.specs.laws.LabelSteps.{action_of}
use Rattle.action_builder.specs.laws.Ready.{Readable, values_of, holds_on}
use Rattle.action_builder.specs.laws.Scopes.{own_path}
use Rattle.action_builder.specs.laws.StepsOfLabels.{step_of, pair_env}
use Rattle.action_builder.specs.laws.WrittenScope.{self_bound, definitions_of}
use Rattle.action_builder.proofs.SingleProcess.{meant_law}
use Rattle.promise.specs.ConstantsAndStates.{AreConstants, IsState}
use Rattle.translation.specs.Region.{region_of}
use Rattle.translation.specs.laws.AcceptedAlgorithm.{IsAcceptedInFile}
use Rattle.translation.specs.laws.AcceptedLaws.{extra_of, may_bind, callable_for}
use Rattle.translation.specs.laws.WritableAlgorithm.{IsLabelled}
use Rattle.translation.proofs.CanonicalFaults.{and_first, or_first, or_second, bad_alike}
use Rattle.translation.proofs.CanonicalSteps.{trouble_faults}
use Rattle.translation.proofs.FramesAccepted.{pc_path}
use Rattle.translation.proofs.NamesApart.{writable, self_some, self_none}
use Rattle.translation.proofs.NextFound.{Finds, FindsOwn, one_mapped}
use Rattle.translation.proofs.NextHolds.{ways_of}
use Rattle.translation.proofs.NextLabels.{ReadyHere}
use Rattle.translation.proofs.NextOfRegion.{HasSingle, one_only}
use Rattle.translation.proofs.NextParts.{acts, reads, taken_by, procedure_found, body_found, process_found}
use Rattle.translation.proofs.NextScopes.{Identified, names_sound, names_by_value, taken_there, set_there}
use Rattle.translation.proofs.NextSingle.{single_clear}
use Rattle.translation.proofs.NextSteps.{main_taken, one_running}
use Rattle.translation.proofs.NextTroubles.{next_troubles}
use Rattle.translation.proofs.NextTrue.{procedures_taken, env_for, argument, TakenBy}
use Rattle.translation.proofs.WritableBodies.{IsBegun, begins}

-- ---- one fault is enough

bad_way : (env : Env) (acts : Acts) (y : Way) (ys : List Way) → OneOf y ys → IsBad (way_holds plain env acts y) → IsBad (some_way_holds plain env acts ys)
bad_way env acts y [] h k = absurd h
bad_way env acts y (z ∷ ys) (inl e) k = or_first (way_holds plain env acts z) (some_way_holds plain env acts ys) (subst (λ w. IsBad (way_holds plain env acts w)) e k)
bad_way env acts y (z ∷ ys) (inr h) k = or_second (way_holds plain env acts z) (some_way_holds plain env acts ys) (bad_way env acts y ys h k)

bad_member : (go : Value → Verdict) (v : Actor) (vs : List Actor) → OneOf v vs → IsBad (go (id v)) → IsBad (some_member (ids vs) go)
bad_member go v [] h k = absurd h
bad_member go v (w ∷ vs) (inl e) k = or_first (go (id w)) (some_member (ids vs) go) (subst (λ (z : Actor). IsBad (go (id z))) e k)
bad_member go v (w ∷ vs) (inr h) k = or_second (go (id w)) (some_member (ids vs) go) (bad_member go v vs h k)

-- ---- the disjunct of a procedure or process

module _ (P : Program) (s t : State) (S T : Valuation) (env : Env) where
  abbrev BadLabel : Takers → Routine → Actor → Word → Type 0
  BadLabel k u v l = IsBad (items_hold plain S T (env_for P s t S T env k v) (items_by k (items_from P u l (at_label u l))))

  bad_called : (acts : Acts) (k : Takers) (u : Routine) (v : Actor) (l : Word) → Finds S T env acts (label_action P (record { takers = k; routine = u }) l) → BadLabel k u v l → IsBad (acted (acts (label_name P u l)) (argument P s t S T env k v))
  bad_called acts (each_of e) u v l f h = subst IsBad (sym (ap (λ o. acted o (Some (id v))) f.1)) h
  bad_called acts (single e) u v l f h = subst IsBad (sym (ap (λ o. acted o None) f.1)) h
  bad_called acts lone u v l f h = subst IsBad (sym (ap (λ o. acted o None) f.1)) h

  bad_own : (acts : Acts) (k : Takers) (u : Routine) (v : Actor) (vs : List Actor) → TakenBy P s t S T env k vs → OneOf v vs → FindsOwn S T env P acts (record { takers = k; routine = u }) → (l : Word) → OneOf l (label_words u.body)
      → BadLabel k u v l → IsBad (way_holds plain env acts (own_way P (record { takers = k; routine = u })))
  bad_own acts (each_of e) u v vs is one f l m h =
      let a = title_of P (record { takers = each_of e; routine = u }) in
      subst IsBad (sym (λ i. (is i >>= (members_at (root_place e))) >>= (λ us. some_member us (λ w. acted (acts a) (Some w)))))
      (bad_member (λ w. acted (acts a) (Some w)) v vs one
      (subst IsBad (sym (ap (λ o. acted o (Some (id v))) f.1))
      (bad_way (bind self (id v) env) f.0 (one_way (call_with (label_name P u l) (named self))) (map (λ l. one_way (call_with (label_name P u l) (named self))) (label_words u.body))
      (one_mapped (λ l. one_way (call_with (label_name P u l) (named self))) l (label_words u.body) m) (bad_called f.0 (each_of e) u v l (f.2 l m) h))))
  bad_own acts (single e) u v vs is one f l m h =
      subst IsBad (sym (ap (λ o. acted o None) f.1))
      (bad_way env f.0 (one_way (call (label_name P u l))) (map (λ l. one_way (call (label_name P u l))) (label_words u.body)) (one_mapped (λ l. one_way (call (label_name P u l))) l (label_words u.body) m) (bad_called f.0 (single e) u v l (f.2 l m) h))
  bad_own acts lone u v vs is one f l m h =
      subst IsBad (sym (ap (λ o. acted o None) f.1))
      (bad_way env f.0 (one_way (call (label_name P u l))) (map (λ l. one_way (call (label_name P u l))) (label_words u.body)) (one_mapped (λ l. one_way (call (label_name P u l))) l (label_words u.body) m) (bad_called f.0 lone u v l (f.2 l m) h))

-- ---- the test of pc

applied_alike : (p q : Place) (f k : Value) (w : Value) → applied p f k ≡ Ok w → applied q f k ≡ Ok w
applied_alike p q (fun ds rs) k w e = by (found_at ds rs k) e
  where
    by : (o : Option Value) → ok_or o (fault NotInDomain p) ≡ Ok w → ok_or o (fault NotInDomain q) ≡ Ok w
    by (Some z) e = ap (λ (o : Outcome Value). elim o [ Ok x ↦ Ok x | Err k ↦ Ok z ]) e
    by None e = cc
applied_alike p q (truth b) k w e = cc
applied_alike p q (int z) k w e = cc
applied_alike p q (text z) k w e = cc
applied_alike p q (model z) k w e = cc
applied_alike p q (set vs) k w e = cc

itself : (o : Outcome Value) → (o >>= (λ w. Ok w)) ≡ o
itself (Ok w) = refl
itself (Err k) = refl

-- where pc has a value at one place it has it at each
read_alike : (p q : Place) (x : Option Value) (f w : Value) → read_at p (index x) f ≡ Ok w → read_at q (index x) f ≡ Ok w
read_alike p q None f w e = e
read_alike p q (Some k) f w e = itself (applied q f k) ∙ applied_alike p q f k w (sym (itself (applied p f k)) ∙ e)

module _ (P : Program) (s : State) (env : Env) (r : env.now pc nowhere ≡ just (s pc)) where
  -- pc[self], or pc
  abbrev pc_tree : Bool → Tree
  pc_tree own = grafted_name (cond own (Some (own_part self pc nowhere)) None) (name pc) nowhere no_trees

  pc_value : (own : Bool) (x : Option Value) → own_path own (identifier x) ≡ index x → (eval plain (pc_tree own) (self_bound x env)).value ≡ read_at nowhere (index x) (s pc)
  pc_value true (Some k) e =
      (λ i. ((r i).value >>= (λ f. (Ok k >>= (λ a. Ok (a ∷ []))) >>= (λ us. Ok (f ∷ us)))) >>= (strict_value plain apply nowhere)) ∙ sym (itself (applied nowhere (s pc) k))
  pc_value true None e = cc
  pc_value false (Some k) e = cc
  pc_value false None e = ap (λ z. z.value) r

  test_value : (u : Routine) (l : Word) (x : Option Value) → own_path (is_own_variable P pc) (identifier x) ≡ index x
      → truth_in plain (self_bound x env) (at_test P u l) ≡ ((read_at nowhere (index x) (s pc) >>= (λ a. Ok (a ∷ text (label_name P u l) ∷ []))) >>= (strict_value plain (operator Equal) nowhere)) >>= (truth_at nowhere)
  test_value u l x e = λ i. ((pc_value (is_own_variable P pc) x e i >>= (λ a. (Ok (text (label_name P u l)) >>= (λ b. Ok (b ∷ []))) >>= (λ bs. Ok (a ∷ bs)))) >>= (strict_value plain (operator Equal) nowhere)) >>= (truth_at nowhere)

  test_true : (u : Routine) (l : Word) (v : Actor) → own_path (is_own_variable P pc) (identifier v.self) ≡ index v.self → pc_of v s ≡ Ok (label_value P u l) → truth_in plain (self_bound v.self env) (at_test P u l) ≡ Ok true
  test_true u l v e q =
      test_value u l v.self e ∙ (λ i. ((read_alike v.own.name.place nowhere v.self (s pc) (label_value P u l) q i >>= (λ a. Ok (a ∷ text (label_name P u l) ∷ []))) >>= (strict_value plain (operator Equal) nowhere)) >>= (truth_at nowhere))
      ∙ ap (λ b. Ok b) (same_self (label_value P u l))

  test_bad : (u : Routine) (l : Word) (v : Actor) → own_path (is_own_variable P pc) (identifier v.self) ≡ index v.self → (k : Trouble) → pc_of v s ≡ Err k → IsBad (truth_in plain (self_bound v.self env) (at_test P u l))
  test_bad u l v e k q = subst IsBad (sym (test_value u l v.self e)) (by (read_at nowhere (index v.self) (s pc)) refl)
    where
      by : (o : Outcome Value) → read_at nowhere (index v.self) (s pc) ≡ o → IsBad (((o >>= (λ a. Ok (a ∷ text (label_name P u l) ∷ []))) >>= (strict_value plain (operator Equal) nowhere)) >>= (truth_at nowhere))
      by (Ok w) f = absurd (no (sym q ∙ read_alike nowhere v.own.name.place v.self (s pc) w f))
        where
          no : ◌≡◌ {A = Outcome Value} (Err k) (Ok w) → ⊥
          no z = cc
      by (Err j) f = tt

-- ---- a process in trouble

some_label : (ls : List Word) → IsLabelled ls → (l : Word) × OneOf l ls
some_label [] h = absurd h
some_label (l ∷ ls) h = (l, inl refl)

begun : (u : Routine) (l : Word) → OneOf l (label_words u.body) → (c : Begin) × (at_label u l ≡ Some c)
begun u l m = by (at_label u l) refl (begins l unlabelled u.body u.exit (subst (OneOf l) (same_labels u.body) m))
  where
    by : (q : Option Begin) → at_label u l ≡ q → IsBegun q → (c : Begin) × (at_label u l ≡ Some c)
    by None e i = absurd i
    by (Some c) e i = (c, e)

module _ (U : Readable) (b : Bool) (title : Word) (o : Outside) (g : Algorithm) (h : IsAcceptedInFile o g) (values : Valuation) (ready : ReadyHere U o g values) (s : State) (k : AreConstants (record { title = title; outside = o; region = region_of b (with_names o g) }) values) where
  abbrev first : Module
  first = record { title = title; outside = o; region = region_of b (with_names o g) }

  abbrev P : Program
  P = program_in plain o g values

  abbrev S : Valuation
  S = values_of (vars P) s

  abbrev T : State → Valuation
  T t = values_of (vars P) t

  abbrev X : State → Env
  X t = scope_of plain values (definitions_of P ++ extra_of g) S (T t)

  abbrev BadItems : Option Value → Routine → Word → Option Begin → State → Type 0
  BadItems w u l c t = IsBad (items_hold plain S (T t) (self_bound w (X t)) (items_from P u l c))

  -- a label's action is a fault for some second state
  record Bad (v : Actor) : Type 0 where
    later : State
    canonical : IsState P later
    routine : Routine
    runs : OneOf routine (routines_of P v)
    label : Word
    listed : OneOf label (label_words routine.body)
    bad : BadItems v.self routine label (at_label routine label) later

  bad_of : IsState P s → (v : Actor) → IsActor P v → (q : Trouble) → Troubled P s v q → Bad v
  bad_of i v a q (inl e) =
      let m = one_right v.own (procedure_routines g) (main_routines g g.main) (own_is_main P v a) in
      let l = some_label (label_words v.own.body) ((writable o g h).routines v.own m).labelled in
      let c = begun v.own l.0 l.1 in
      record {
        later = s;
        canonical = i;
        routine = v.own;
        runs = inl refl;
        label = l.0;
        listed = l.1;
        bad = subst (λ z. BadItems v.self v.own l.0 z s) (sym c.1) (and_first _ _ (test_bad P s (X s) (reads b o g h values s s) v.own l.0 v (pc_path o g h values v a) q e));
      }
  bad_of i v a q (inr (d, st, has)) =
      let fault = trouble_faults U title first.region o g h values ready k s i v a d (record { actor = a; routine = st.0; label = st.1 }) q has in
      let t = fault.0 in
      record {
        later = t;
        canonical = fault.1;
        routine = d.routine;
        runs = st.0;
        label = d.label;
        listed = label_listed d.routine d.label d.begins st.1;
        bad = subst (λ z. BadItems v.self d.routine d.label z t) (sym st.1)
            (subst (λ w. IsBad (and_then w (holds_on (vars P) (pair_env P (extra_of g) v) (action_of (vars P) (step_of P (extra_of g) v d (may_bind o P) (callable_for P))) s t))) (sym (test_true P s (X t) (reads b o g h values s t) d.routine d.label v (pc_path o g h values v a) st.2)) fault.2);
      }

  -- ---- so Next is a fault

  module _ (vs : List Actor) (all : actors P ≡ Ok vs) (v : Actor) (one : OneOf v vs) (t : State) (before : IsState P s) (after : IsState P t) where
    actor : IsActor P v
    actor = (vs, all, one)

    abbrev BadNext : Main → Type 0
    BadNext m = IsBad (some_way_holds plain (X t) (acts b o g h values s t m) (ways_of b P m))

    -- of a procedure
    of_procedure : (m : Main) (e : g.main ≡ m) (u : Routine) → OneOf u (procedure_routines g) → TakenBy P s t S (T t) (X t) (procedure_takers m) vs → (l : Word) → OneOf l (label_words u.body)
        → BadLabel P s t S (T t) (X t) (procedure_takers m) u v l → BadNext m
    of_procedure m e u n is l i f =
        bad_way (X t) (acts b o g h values s t m) (own_way P (taken_by b o g h values s t m u)) (ways_of b P m)
        (one_left (own_way P (taken_by b o g h values s t m u)) (map (own_way P) (procedures_taken P m)) _
        (one_mapped (own_way P) (taken_by b o g h values s t m u) (procedures_taken P m) (one_mapped (taken_by b o g h values s t m) u (procedure_routines g) n)))
        (bad_own P s t S (T t) (X t) (acts b o g h values s t m) (procedure_takers m) u v vs is one (procedure_found b o g h values s t m e u n) l i f)

    -- of the main part
    of_main : (m : Main) (y : Way) → OneOf y (main_ways P m) → IsBad (way_holds plain (X t) (acts b o g h values s t m) y) → BadNext m
    of_main m y n f = bad_way (X t) (acts b o g h values s t m) y (ways_of b P m) (one_right y (map (own_way P) (procedures_taken P m)) _ (one_left y (main_ways P m) _ n)) f

    of_body : (ss : Statements) (e : g.main ≡ alone ss) (u : Routine) → u ≡ alone_routine g ss → (l : Word) → OneOf l (label_words u.body) → BadLabel P s t S (T t) (X t) lone u v l → BadNext (alone ss)
    of_body ss e u q =
        subst (λ w. (l : Word) → OneOf l (label_words w.body) → BadLabel P s t S (T t) (X t) lone w v l → BadNext (alone ss)) (sym q)
        (λ l i f. of_main (alone ss) (one_way (call (label_name P (alone_routine g ss) l)))
        (one_left (one_way (call (label_name P (alone_routine g ss) l))) (map (λ l. one_way (call (label_name P (alone_routine g ss) l))) (label_words ss)) [] (one_mapped (λ l. one_way (call (label_name P (alone_routine g ss) l))) l (label_words ss) i))
        (bad_called P s t S (T t) (X t) (acts b o g h values s t (alone ss)) lone (alone_routine g ss) v l (body_found b o g h values s t ss e l i) f))

    -- a single process: its expression stands for self
    single_bad : (f : Tree) (u : Routine) → OneOf (record { takers = single f; routine = u }) (taken_main g g.main) → (eval plain f (X t)).value ≡ Ok (id v) → (l : Word) → OneOf l (label_words u.body)
        → IsBad (items_hold plain S (T t) (bind self (id v) (X t)) (items_from P u l (at_label u l))) → BadLabel P s t S (T t) (X t) (single f) u v l
    single_bad f u n is l m z =
        (bad_alike _ _
        (meant_law plain value_kept self f (id v) (items_from P u l (at_label u l)) (single_clear o g h values (record { takers = single f; routine = u }) n f refl l m) S (T t) (X t)
        (names_sound o g h title first.region values k s t before after) (means_its_value f (X t) (names_sound o g h title first.region values k s t before after) (names_by_value o g h title first.region values k s t) (id v) is))).1 z

    of_process : (ps : List Process) (e : g.main ≡ processes ps) (c : Takers) (u : Routine) → OneOf (record { takers = c; routine = u }) (taken_main g (processes ps)) → Identified o g h title first.region values k s t c (running u vs) → OneOf v (running u vs)
        → (l : Word) → OneOf l (label_words u.body) → IsBad (items_hold plain S (T t) (bind self (id v) (X t)) (items_from P u l (at_label u l))) → BadNext (processes ps)
    of_process ps e (each_of f) u n is i l m z =
        let r : Taken = record { takers = each_of f; routine = u } in
        of_main (processes ps) (own_way P r) (one_mapped (own_way P) r (taken_main g (processes ps)) n) (bad_own P s t S (T t) (X t) (acts b o g h values s t (processes ps)) (each_of f) u v (running u vs) is i (process_found b o g h values s t ps e r n) l m z)
    of_process ps e (single f) u n (w, only, q) i l m z =
        let r : Taken = record { takers = single f; routine = u } in
        of_main (processes ps) (own_way P r) (one_mapped (own_way P) r (taken_main g (processes ps)) n)
        (bad_own P s t S (T t) (X t) (acts b o g h values s t (processes ps)) (single f) u v (running u vs) (w, only) i (process_found b o g h values s t ps e r n) l m
        (single_bad f u (subst (λ y. OneOf r (taken_main g y)) (sym e) n) (q ∙ ap (λ (a : Actor). Ok (id a)) (sym (one_only w v (subst (OneOf v) only i)))) l m z))
    of_process ps e lone u n is i l m z = absurd is

    by_main : (m : Main) → g.main ≡ m → (u : Routine) → OneOf u (routines_of P v) → (l : Word) → OneOf l (label_words u.body) → BadItems v.self u l (at_label u l) t → BadNext m
    by_main (alone ss) e u runs l i f = by runs
      where
        only : vs ≡ record { self = None; own = alone_routine g ss } ∷ []
        only = ok_is (sym all ∙ ap (actors_in P) e)

        it : OneOf v (record { self = None; own = alone_routine g ss } ∷ []) → v ≡ record { self = None; own = alone_routine g ss }
        it (inl q) = q
        it (inr q) = absurd q

        lone_bad : BadLabel P s t S (T t) (X t) lone u v l
        lone_bad = subst (λ w. BadItems w u l (at_label u l) t) (self_none P v ss e actor) f

        by : OneOf u (routines_of P v) → BadNext (alone ss)
        by (inl q) = of_body ss e u (q ∙ ap (λ (w : Actor). w.own) (it (subst (OneOf v) only one))) l i lone_bad
        by (inr n) = of_procedure (alone ss) e u n (record { self = None; own = alone_routine g ss }, only) l i lone_bad
    by_main (processes ps) e u runs l i f = by runs
      where
        named_self : v.self ≡ Some (id v)
        named_self = (let (w, q) = self_some P v ps e actor in q ∙ ap (λ z. Some z) (sym (ap identifier q)))

        self_bad : IsBad (items_hold plain S (T t) (bind self (id v) (X t)) (items_from P u l (at_label u l)))
        self_bad = subst (λ w. BadItems w u l (at_label u l) t) named_self f

        by : OneOf u (routines_of P v) → BadNext (processes ps)
        by (inl q) =
            let own = main_taken g (processes ps) v.own (subst (λ n. OneOf v.own (main_routines g n)) e (own_is_main P v actor)) in
            let r = own.0 in
            of_process ps e r.takers r.routine own.1 (taken_there o g h title first.region values k s t ps vs e all r own.1).identified (one_running r.routine v vs (sym own.2) one) l
            (subst (λ (w : Routine). OneOf l (label_words w.body)) (q ∙ sym own.2) i)
            (subst (λ (w : Routine). IsBad (items_hold plain S (T t) (bind self (id v) (X t)) (items_from P w l (at_label w l)))) (q ∙ sym own.2) self_bad)
        by (inr n) = of_procedure (processes ps) e u n (set_there o g h title first.region values k s t ps vs e all) l i self_bad

  -- some process is in trouble exactly if Next is a fault for some second state
  pub faults_agree : IsState P s → Proper P
      → (((v : Actor) × (q : Trouble) × IsActor P v × Troubled P s v q) ↔ ((t : State) × IsState P t × IsBad (next_holds plain first values (on_variables P s) (on_variables P t))))
  faults_agree is proper = (to, from)
    where
      to : (v : Actor) × (q : Trouble) × IsActor P v × Troubled P s v q → (t : State) × IsState P t × IsBad (next_holds plain first values (on_variables P s) (on_variables P t))
      to (v, q, a, z) = (let x = bad_of is v a q z in (x.later, x.canonical, by_main a.0 a.1 v a.2 x.later is x.canonical g.main refl x.routine x.runs x.label x.listed x.bad))

      from : (t : State) × IsState P t × IsBad (next_holds plain first values (on_variables P s) (on_variables P t)) → (v : Actor) × (q : Trouble) × IsActor P v × Troubled P s v q
      from (t, it, f) = next_troubles U b title o g h values s t ready k is (λ c. it) proper f

  -- and where there is no single process, if it is one for any second state
  pub set_troubles : (HasSingle g → ⊥) → IsState P s → Proper P → (t : State) → IsBad (next_holds plain first values (on_variables P s) (on_variables P t)) → (v : Actor) × (q : Trouble) × IsActor P v × Troubled P s v q
  set_troubles lacks is proper t f = next_troubles U b title o g h values s t ready k is (λ c. absurd (lacks c)) proper f
