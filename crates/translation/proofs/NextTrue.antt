-- Next as an or over processes and labels: where each label's action is true exactly of the steps from that label, Next is true exactly where some process steps.
use Rattle.std.proofs.Common.{◌≡◌, List, [], ◌∷◌, ◌++◌, map, Option, Some, None, ◌⊎◌, inl, inr, refl, sym, ap, subst, Ok}
use Rattle.std.specs.List.{AllByRecursion}
use Rattle.tla_tree.specs.Tree.{Word}
use Rattle.tla_value.specs.Value.{Value, set, TrueExactly}
use Rattle.tla_value.specs.Stops.{plain}
use Rattle.tla_value.specs.Meaning.{Env, bind, eval}
use Rattle.tla_value.specs.Definitions.{Valuation}
use Rattle.module_tree.specs.Formulas.{self}
use Rattle.module_tree.specs.ActionTruth.{Verdict, Acts, acted, items_hold, way_holds, some_way_holds}
use Rattle.module_tree.proofs.Tells.{tells_as, tells_of}
use Rattle.pcal_tree.specs.Algorithm.{Main, alone, processes, Routine, alone_routine, procedure_routines}
use Rattle.pcal_tree.specs.InitialStates.{running}
use Rattle.pcal_tree.specs.OffencesLabels.{label_words}
use Rattle.pcal_tree.specs.Calls.{label_name}
use Rattle.pcal_tree.specs.Processes.{OneOf}
use Rattle.pcal_tree.specs.Program.{Program, Actor}
use Rattle.pcal_tree.specs.Scope.{State}
use Rattle.pcal_tree.specs.Step.{StepFrom}
use Rattle.pcal_tree.specs.StepStart.{Begin, at_label}
use Rattle.pcal_tree.specs.Takers.{Takers, each_of, single, lone, Taken, taken_main}
use Rattle.pcal_tree.proofs.ProcessesInOrder.{id, ids}
use Rattle.action_builder.specs.LabelActions.{procedure_takers, items_by, items_from, label_action, title_of}
use Rattle.action_builder.specs.NextFormula.{own_way, label_ways, main_ways}
use Rattle.action_builder.proofs.WaysOfNext.{AnyOf, ways_true, ways_both, own_true, own_alone_true, set_true}
use Rattle.translation.proofs.NextFound.{Finds, FindsLabels, FindsOwn}

-- ---- lists

pub any_one : {X : Type 0} (Q : X → Type 0) (xs : List X) → AnyOf Q xs → (x : X) × OneOf x xs × Q x
any_one Q [] h = absurd h
any_one Q (x ∷ xs) (inl k) = (x, inl refl, k)
any_one Q (x ∷ xs) (inr h) = (let k = any_one Q xs h in (k.0, inr k.1, k.2))

pub one_any : {X : Type 0} (Q : X → Type 0) (x : X) (xs : List X) → OneOf x xs → Q x → AnyOf Q xs
one_any Q x [] h k = absurd h
one_any Q x (y ∷ xs) (inl e) k = inl (subst Q e k)
one_any Q x (y ∷ xs) (inr h) k = inr (one_any Q x xs h k)

pub all_from : {X : Type 0} (Q : X → Type 0) (xs : List X) → ((x : X) → OneOf x xs → Q x) → AllByRecursion Q xs
all_from Q [] h = tt
all_from Q (x ∷ xs) h = (h x (inl refl), all_from Q xs (λ y k. h y (inr k)))

-- ---- one label, one routine

-- the procedures, of an algorithm with this main part
abbrev pub procedures_taken : Program → Main → List Taken
procedures_taken P m = map (λ u. record { takers = procedure_takers m; routine = u }) (procedure_routines P.algorithm)

-- the processes that take a routine of the main part, among these
abbrev pub takers_among : List Actor → Main → Taken → List Actor
takers_among vs (alone ss) r = vs
takers_among vs (processes ps) r = running r.routine vs

module _ (P : Program) (s t : State) where
  -- process v steps from the label l of u
  abbrev pub FromLabel : Actor → Routine → Word → Type 0
  FromLabel v u l = (b : Begin) × (at_label u l ≡ Some b) × StepFrom P v (record { routine = u; label = l; begins = b }) s t

  abbrev pub FromRoutine : Actor → Routine → Type 0
  FromRoutine v u = AnyOf (FromLabel v u) (label_words u.body)

  abbrev pub FromTaken : Taken → List Actor → Type 0
  FromTaken r vs = AnyOf (λ v. FromRoutine v r.routine) vs

  abbrev pub FromMain : List Actor → Main → Type 0
  FromMain vs m = AnyOf (λ r. FromTaken r (takers_among vs m r)) (taken_main P.algorithm m)

  module _ (S T : Valuation) (env : Env) where
    -- what is called with a process's identifier has it for self
    abbrev pub env_for : Takers → Actor → Env
    env_for (each_of e) v = bind self (id v) env
    env_for _ v = env

    abbrev pub argument : Takers → Actor → Option Value
    argument (each_of e) v = Some (id v)
    argument _ v = None

    -- a label's action says what is to be said of process v
    abbrev pub LabelTrue : Taken → Actor → Type 0
    LabelTrue r v = (l : Word) → OneOf l (label_words r.routine.body)
        → TrueExactly (items_hold plain S T (env_for r.takers v) (items_by r.takers (items_from P r.routine l (at_label r.routine l)))) (FromLabel v r.routine l)

    -- who takes the steps: the members of the set, or one process
    abbrev pub TakenBy : Takers → List Actor → Type 0
    TakenBy (each_of e) vs = (eval plain e env).value ≡ Ok (set (ids vs))
    TakenBy _ vs = (v : Actor) × (vs ≡ v ∷ [])

    label_called : (acts : Acts) (k : Takers) (u : Routine) (v : Actor) → LabelTrue (record { takers = k; routine = u }) v → (l : Word) → OneOf l (label_words u.body)
        → Finds S T env acts (label_action P (record { takers = k; routine = u }) l) → TrueExactly (acted (acts (label_name P u l)) (argument k v)) (FromLabel v u l)
    label_called acts (each_of e) u v h l m f = tells_of _ _ (FromLabel v u l) (ap (λ o. acted o (Some (id v))) f.1) (h l m)
    label_called acts (single e) u v h l m f = tells_of _ _ (FromLabel v u l) (ap (λ o. acted o None) f.1) (h l m)
    label_called acts lone u v h l m f = tells_of _ _ (FromLabel v u l) (ap (λ o. acted o None) f.1) (h l m)

    one_process : (v : Actor) (u : Routine) (vs : List Actor) → vs ≡ v ∷ [] → (r : Verdict) → TrueExactly r (FromRoutine v u) → TrueExactly r (AnyOf (λ w. FromRoutine w u) vs)
    one_process v u vs e r h = subst (λ ws. TrueExactly r (AnyOf (λ w. FromRoutine w u) ws)) (sym e) (tells_as r (FromRoutine v u) (FromRoutine v u ⊎ ⊥) h (λ k. inl k) back)
      where
        back : FromRoutine v u ⊎ ⊥ → FromRoutine v u
        back (inl k) = k
        back (inr k) = absurd k

    -- the disjunct of a procedure or process
    pub way_true : (acts : Acts) (k : Takers) (u : Routine) (vs : List Actor) → TakenBy k vs → FindsOwn S T env P acts (record { takers = k; routine = u })
        → ((v : Actor) → OneOf v vs → LabelTrue (record { takers = k; routine = u }) v) → TrueExactly (way_holds plain env acts (own_way P (record { takers = k; routine = u }))) (FromTaken (record { takers = k; routine = u }) vs)
    way_true acts (each_of e) u vs is f h =
        set_true env acts e (title_of P (record { takers = each_of e; routine = u })) vs (λ v. FromRoutine v u) is
        (all_from _ vs (λ v m. tells_of _ _ (FromRoutine v u) (ap (λ o. acted o (Some (id v))) f.1)
        (own_true S T env f.0 (title_of P (record { takers = each_of e; routine = u })) (label_name P u) (label_words u.body) (id v) (FromLabel v u)
        (all_from _ (label_words u.body) (λ l n. label_called f.0 (each_of e) u v (h v m) l n (f.2 l n))))))
    way_true acts (single e) u vs is f h =
        one_process is.0 u vs is.1 _ (tells_of _ _ (FromRoutine is.0 u) (ap (λ o. acted o None) f.1)
        (own_alone_true S T env f.0 (title_of P (record { takers = single e; routine = u })) (label_name P u) (label_words u.body) (FromLabel is.0 u)
        (all_from _ (label_words u.body) (λ l n. label_called f.0 (single e) u is.0 (h is.0 (subst (OneOf is.0) (sym is.1) (inl refl))) l n (f.2 l n)))))
    way_true acts lone u vs is f h =
        one_process is.0 u vs is.1 _ (tells_of _ _ (FromRoutine is.0 u) (ap (λ o. acted o None) f.1)
        (own_alone_true S T env f.0 (title_of P (record { takers = lone; routine = u })) (label_name P u) (label_words u.body) (FromLabel is.0 u)
        (all_from _ (label_words u.body) (λ l n. label_called f.0 lone u is.0 (h is.0 (subst (OneOf is.0) (sym is.1) (inl refl))) l n (f.2 l n)))))

    -- ---- all of them

    -- of each procedure and process the action is there, and true of the steps of who takes it
    pub record RoutineTrue (acts : Acts) (r : Taken) (vs : List Actor) : Type 0 where
      pub taken : TakenBy r.takers vs
      pub found : FindsOwn S T env P acts r
      pub labels : (v : Actor) → OneOf v vs → LabelTrue r v

    routines_true : (acts : Acts) (by : Taken → List Actor) (rs : List Taken) → ((r : Taken) → OneOf r rs → RoutineTrue acts r (by r))
        → TrueExactly (some_way_holds plain env acts (map (own_way P) rs)) (AnyOf (λ r. FromTaken r (by r)) rs)
    routines_true acts by rs h = ways_true env acts (own_way P) (λ r. FromTaken r (by r)) rs (all_from _ rs (λ r m. way_true acts r.takers r.routine (by r) (h r m).taken (h r m).found (h r m).labels))

    -- the labels of the one body stand in Next themselves
    abbrev pub MainTrue : Acts → List Actor → Main → Type 0
    MainTrue acts vs (alone ss) =
        (v : Actor) × (vs ≡ v ∷ []) × FindsLabels S T env P acts (record { takers = lone; routine = alone_routine P.algorithm ss }) × LabelTrue (record { takers = lone; routine = alone_routine P.algorithm ss }) v
    MainTrue acts vs (processes ps) = (r : Taken) → OneOf r (taken_main P.algorithm (processes ps)) → RoutineTrue acts r (running r.routine vs)

    main_true : (acts : Acts) (vs : List Actor) (m : Main) → MainTrue acts vs m → TrueExactly (some_way_holds plain env acts (main_ways P m)) (FromMain vs m)
    main_true acts vs (processes ps) h = routines_true acts (λ r. running r.routine vs) (taken_main P.algorithm (processes ps)) h
    main_true acts vs (alone ss) (v, e, f, h) =
        let u = alone_routine P.algorithm ss in
        subst (λ ws. TrueExactly (some_way_holds plain env acts (main_ways P (alone ss))) (FromMain ws (alone ss))) (sym e)
        (tells_as _ (FromRoutine v u ⊎ ⊥) _ (ways_both env acts (label_ways P (record { takers = lone; routine = u })) [] (FromRoutine v u) ⊥
        (ways_true env acts _ (FromLabel v u) (label_words u.body) (all_from _ (label_words u.body) (λ l n. label_called acts lone u v h l n (f l n)))) (ways_true env acts (own_way P) (λ r. ⊥) [] tt)) to from)
      where
        to : FromRoutine v (alone_routine P.algorithm ss) ⊎ ⊥ → FromMain (v ∷ []) (alone ss)
        to (inl k) = inl (inl k)
        to (inr k) = absurd k

        from : FromMain (v ∷ []) (alone ss) → FromRoutine v (alone_routine P.algorithm ss) ⊎ ⊥
        from (inl (inl k)) = inl k
        from (inl (inr k)) = absurd k
        from (inr k) = absurd k

    pub steps_true : (acts : Acts) (vs : List Actor) (m : Main) → ((r : Taken) → OneOf r (procedures_taken P m) → RoutineTrue acts r vs) → MainTrue acts vs m
        → TrueExactly (some_way_holds plain env acts (map (own_way P) (procedures_taken P m) ++ main_ways P m)) (AnyOf (λ r. FromTaken r vs) (procedures_taken P m) ⊎ FromMain vs m)
    steps_true acts vs m h k =
        ways_both env acts (map (own_way P) (procedures_taken P m)) (main_ways P m) _ _ (routines_true acts (λ r. vs) (procedures_taken P m) h) (main_true acts vs m k)
