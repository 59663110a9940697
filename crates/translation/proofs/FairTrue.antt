-- Each formula of fairness of a process of an accepted algorithm is of its obligation: its test and then its action are true exactly of the process's steps from the obligation's labels, from sound states.
use Rattle.std.proofs.Common.{◌≡◌, List, [], ◌∷◌, ◌++◌, map, Bool, true, false, cond, Option, Some, None, ◌⊎◌, inl, inr, refl, sym, ap, ◌∙◌, subst, Ok, Err}
use Rattle.std.specs.List.{flat_map}
use Rattle.std.proofs.lemmas.Bool.{eq-eqb, ne_eqb, both_ways}
use Rattle.tla_token.specs.Places.{nowhere}
use Rattle.tla_tree.specs.Tree.{Word}
use Rattle.tla_value.specs.Value.{Value, Outcome, text, TrueExactly, and_then, ◌>>=◌}
use Rattle.tla_value.specs.Outside.{Outside}
use Rattle.tla_value.specs.Stops.{plain}
use Rattle.tla_value.specs.Meaning.{Env, just, eval}
use Rattle.tla_value.specs.Definitions.{Valuation, or_sense, base, scope_of}
use Rattle.tla_value.proofs.Untitled.{looked_through}
use Rattle.module_tree.specs.Formulas.{process_set}
use Rattle.module_tree.specs.Module.{Action, Module, Fairness, call_with}
use Rattle.module_tree.specs.ModuleTruth.{terminating}
use Rattle.module_tree.specs.ActionTruth.{Acts, acted, acts_of, no_acts, call_holds}
use Rattle.module_tree.proofs.ActionFound.{titles}
use Rattle.module_tree.proofs.Tells.{tells_and, tells_as, tells_of}
use Rattle.pcal_tree.specs.Algorithm.{Process, processes, Routine, procedure_routines, Algorithm}
use Rattle.pcal_tree.specs.Calls.{label_name}
use Rattle.pcal_tree.specs.Faults.{Sound}
use Rattle.pcal_tree.specs.InitialStates.{running}
use Rattle.pcal_tree.specs.OffencesLabels.{label_words}
use Rattle.pcal_tree.specs.Processes.{OneOf, identifier, IsActor}
use Rattle.pcal_tree.specs.Program.{Program, Actor}
use Rattle.pcal_tree.specs.Programs.{program_in}
use Rattle.pcal_tree.specs.Run.{unlabelled}
use Rattle.pcal_tree.specs.Scope.{State}
use Rattle.pcal_tree.specs.Step.{Stand, pc_of, routines_of, StandsAt, StepFrom}
use Rattle.pcal_tree.specs.StepStart.{Begin, at_label}
use Rattle.pcal_tree.specs.Takers.{Takers, each_of, single, lone, Taken, taken_main}
use Rattle.pcal_tree.specs.Variables.{pc, vars}
use Rattle.pcal_tree.proofs.BodyLabels.{same_labels}
use Rattle.pcal_tree.proofs.ClearLabels.{clear_labels}
use Rattle.pcal_tree.proofs.OneStand.{stands_once}
use Rattle.pcal_tree.proofs.ProcessesInOrder.{id}
use Rattle.action_builder.specs.LabelActions.{call_by, label_action, label_actions, routine_actions, taken_procedures, procedure_takers, main_actions, title_of}
use Rattle.action_builder.specs.NextFormula.{ended}
use Rattle.action_builder.specs.WrittenNames.{with_names}
use Rattle.action_builder.specs.laws.Jumps.{AllUnlike}
use Rattle.action_builder.specs.laws.Ready.{Readable, values_of}
use Rattle.action_builder.specs.laws.WrittenScope.{definitions_of}
use Rattle.action_builder.proofs.WaysOfNext.{own_true, own_alone_true}
use Rattle.fairness.specs.Demands.{routine_steps, label_steps}
use Rattle.fairness.specs.FairnessLines.{identifier_of, action_call, guard_of, line_of}
use Rattle.fairness.specs.MarkedLabels.{kept_labels, left_out_labels}
use Rattle.fairness.specs.Obligations.{Obligation, written_labels, obligation_of}
use Rattle.fairness.proofs.LabelsShared.{labels_shared}
use Rattle.promise.specs.ConstantsAndStates.{AreConstants, IsState}
use Rattle.translation.specs.Region.{region_of}
use Rattle.translation.specs.laws.AcceptedAlgorithm.{IsAcceptedInFile}
use Rattle.translation.specs.laws.ActionLaws.{guard_holds}
use Rattle.translation.specs.laws.AcceptedLaws.{extra_of, PreparedLaw, ReadyLaw}
use Rattle.translation.proofs.ActionSets.{own_untitled}
use Rattle.translation.proofs.ActionTrue.{procedure_runs, process_runs}
use Rattle.translation.proofs.FairTests.{among_texts, held_from, held_to, guard_true, pc_at, shared_one, shared_first, shared_apart}
use Rattle.translation.proofs.FramesAccepted.{pc_among}
use Rattle.translation.proofs.NamesApart.{self_some, writable, extra_untitled_by, untitled_joined}
use Rattle.translation.proofs.NamesOfRules.{rules_of_names}
use Rattle.translation.proofs.NextEnds.{PcRead}
use Rattle.translation.proofs.NextFound.{Finds, FindsOwn, OneTitle, Within, within_flat, within_first, within_last, one_mapped, labels_of_own, own_found}
use Rattle.translation.proofs.NextOfRegion.{SingleClearLaw}
use Rattle.translation.proofs.NextScopes.{Identified, taken_there}
use Rattle.translation.proofs.NextSteps.{one_running}
use Rattle.translation.proofs.NextTitles.{all_actions, titles_once, unmapped}
use Rattle.translation.proofs.NextTrue.{any_one, one_any, all_from, FromLabel, FromRoutine, argument, env_for, LabelTrue}
use Rattle.translation.proofs.WritableBodies.{IsBegun, begins}
use Rattle.translation.proofs.ActionTitles.{titles_joined, label_titles}
use Rattle.translation.proofs.JumpsReady.{unlike_behind}
use Rattle.action_builder.proofs.FitJumps.{unlike_first}

-- ---- a part of a list without repetitions

-- names of labels are apart where actions are
names_once : (P : Program) (r : Taken) (xs : List Action) → OneTitle xs → Within (label_actions P) r xs → AllUnlike (map (label_name P r.routine) (label_words r.routine.body))
names_once P r xs d w =
    subst AllUnlike (label_titles P r (label_words r.routine.body))
    (unlike_first (titles (label_actions P r)) (titles w.later)
    (subst AllUnlike (titles_joined (label_actions P r) w.later)
    (unlike_behind (titles w.before) (titles (label_actions P r ++ w.later)) (subst AllUnlike (ap titles w.all ∙ titles_joined w.before (label_actions P r ++ w.later)) d))))

module _ (U : Algorithm → Readable) (prepared : PreparedLaw IsAcceptedInFile) (ready : ReadyLaw IsAcceptedInFile U) (clear : SingleClearLaw)
    (b : Bool) (title : Word) (o : Outside) (g : Algorithm) (h : IsAcceptedInFile o g) (values : Valuation) (s t : State) where
  abbrev first : Module
  first = record { title = title; outside = o; region = region_of b (with_names o g) }

  abbrev P : Program
  P = program_in plain o g values

  abbrev S : Valuation
  S = values_of (vars P) s

  abbrev T : Valuation
  T = values_of (vars P) t

  abbrev X : Env
  X = scope_of plain values (definitions_of P ++ extra_of g) S T

  module _ (k : AreConstants first values) (is : IsState P s) (it : IsState P t) (sound : Sound P s) (ps : List Process) (e : g.main ≡ processes ps) (v : Actor) (a : IsActor P v) where
    abbrev all : List Action
    all = all_actions o g h values (processes ps) (ended b (processes ps))

    abbrev acts : Acts
    acts = acts_of plain S T X all no_acts

    once : OneTitle all
    once = titles_once o g h values (processes ps) e (ended b (processes ps))

    -- ---- actions of routines

    called : (before : Acts) (c : Takers) (u : Routine) → LabelTrue P s t S T X (record { takers = c; routine = u }) v → (l : Word) → OneOf l (label_words u.body)
        → Finds S T X before (label_action P (record { takers = c; routine = u }) l) → TrueExactly (acted (before (label_name P u l)) (argument P s t S T X c v)) (FromLabel P s t v u l)
    called before (each_of f) u r l n d = tells_of _ _ (FromLabel P s t v u l) (ap (λ o. acted o (Some (id v))) d.1) (r l n)
    called before (single f) u r l n d = tells_of _ _ (FromLabel P s t v u l) (ap (λ o. acted o None) d.1) (r l n)
    called before lone u r l n d = tells_of _ _ (FromLabel P s t v u l) (ap (λ o. acted o None) d.1) (r l n)

    own_called : (c : Takers) (u : Routine) → FindsOwn S T X P acts (record { takers = c; routine = u }) → LabelTrue P s t S T X (record { takers = c; routine = u }) v
        → TrueExactly (acted (acts (title_of P (record { takers = c; routine = u }))) (argument P s t S T X c v)) (FromRoutine P s t v u)
    own_called (each_of f) u d r =
        tells_of _ _ (FromRoutine P s t v u) (ap (λ o. acted o (Some (id v))) d.1)
        (own_true S T X d.0 (title_of P (record { takers = each_of f; routine = u })) (label_name P u) (label_words u.body) (id v) (FromLabel P s t v u)
        (all_from _ (label_words u.body) (λ l n. called d.0 (each_of f) u r l n (d.2 l n))))
    own_called (single f) u d r =
        tells_of _ _ (FromRoutine P s t v u) (ap (λ o. acted o None) d.1)
        (own_alone_true S T X d.0 (title_of P (record { takers = single f; routine = u })) (label_name P u) (label_words u.body) (FromLabel P s t v u)
        (all_from _ (label_words u.body) (λ l n. called d.0 (single f) u r l n (d.2 l n))))
    own_called lone u d r =
        tells_of _ _ (FromRoutine P s t v u) (ap (λ o. acted o None) d.1)
        (own_alone_true S T X d.0 (title_of P (record { takers = lone; routine = u })) (label_name P u) (label_words u.body) (FromLabel P s t v u)
        (all_from _ (label_words u.body) (λ l n. called d.0 lone u r l n (d.2 l n))))

    -- the actions of a routine, called with that argument
    record Calls (u : Routine) (w : Option Value) : Type 0 where
      own : TrueExactly (acted (acts (P.naming.title u.number)) w) (FromRoutine P s t v u)
      label : (l : Word) → OneOf l (label_words u.body) → TrueExactly (acted (acts (label_name P u l)) w) (FromLabel P s t v u l)
      apart : AllUnlike (map (label_name P u) (label_words u.body))

    procedure_there : (u : Routine) → OneOf u (procedure_routines g) → Within (routine_actions P) (record { takers = each_of process_set; routine = u }) all
    procedure_there u n =
        within_first (routine_actions P) _ _ (terminating (vars P) (ended b (processes ps))) (within_first (routine_actions P) _ _ (main_actions P (processes ps))
        (within_flat (routine_actions P) (record { takers = each_of process_set; routine = u }) (taken_procedures g)
        (subst (λ z. OneOf (record { takers = procedure_takers z; routine = u }) (taken_procedures g)) e (one_mapped (λ w. record { takers = procedure_takers g.main; routine = w }) u (procedure_routines g) n))))

    process_there : (r : Taken) → OneOf r (taken_main g (processes ps)) → Within (routine_actions P) r all
    process_there r n =
        within_first (routine_actions P) r _ (terminating (vars P) (ended b (processes ps))) (within_last (routine_actions P) r (flat_map (routine_actions P) (taken_procedures g)) (main_actions P (processes ps))
        (within_flat (routine_actions P) r (taken_main g (processes ps)) n))

    procedure_calls : (u : Routine) → OneOf u (procedure_routines g) → Calls u (Some (id v))
    procedure_calls u n =
        let r : Taken = record { takers = each_of process_set; routine = u } in
        let runs = procedure_runs U prepared ready clear b title o g h values s t k is it sound ps e v a u n in
        record {
          own = own_called (each_of process_set) u (own_found S T X P all no_acts r (procedure_there u n) once) runs.labels;
          label = λ l m. called acts (each_of process_set) u runs.labels l m (runs.found l m);
          apart = names_once P r all once (labels_of_own S T X P all r (procedure_there u n));
        }

    process_calls : (r : Taken) → OneOf r (taken_main g (processes ps)) → v.own ≡ r.routine → Calls r.routine (argument P s t S T X r.takers v)
    process_calls r n q =
        let runs = process_runs U prepared ready clear b title o g h values s t k is it sound ps e v a r n q in
        record {
          own = own_called r.takers r.routine (own_found S T X P all no_acts r (process_there r n) once) runs.labels;
          label = λ l m. called acts r.takers r.routine runs.labels l m (runs.found l m);
          apart = names_once P r all once (labels_of_own S T X P all r (process_there r n));
        }

    -- ---- the process in its formula

    named_self : v.self ≡ Some (id v)
    named_self = (let (w, q) = self_some P v ps e a in q ∙ ap (λ z. Some z) (sym (ap identifier q)))

    reads : X.now pc nowhere ≡ just (s pc)
    reads =
        looked_through plain (definitions_of P ++ extra_of g) _ pc nowhere (untitled_joined pc (definitions_of P) (extra_of g) (own_untitled b title o g h values k pc refl) (extra_untitled_by pc g.main refl))
        ∙ ap (λ c. or_sense (cond c (Some (s pc)) None) ((base plain values).now pc nowhere)) (pc_among o g h values)

    read : PcRead s v
    read = by (pc_of v s) refl
      where
        by : (r : Outcome Value) → pc_of v s ≡ r → PcRead s v
        by (Ok w) q = record { value = w; read = q }
        by (Err z) q = absurd (sound.1 v z a (inl q))

    module _ (r : Taken) (n : OneOf r (taken_main g (processes ps))) (own : v.own ≡ r.routine) where
      abbrev here : Env
      here = env_for P s t S T X r.takers v

      -- what is to be looked at in a formula for this process
      record Known (c : Takers) : Type 0 where
        who : (eval plain (identifier_of c) (env_for P s t S T X c v)).value ≡ Ok (id v)
        reads : (env_for P s t S T X c v).now pc nowhere ≡ just (s pc)
        by_own : (x : Word) → call_holds plain (env_for P s t S T X c v) acts (call_by c x) ≡ acted (acts x) (argument P s t S T X c v)

      known : (c : Takers) (u : Routine) → Identified o g h title first.region values k s t c (running u a.0) → OneOf v (running u a.0) → Known c
      known (each_of f) u i m = record { who = refl; reads = reads; by_own = λ x. refl }
      known (single f) u (w, only, y) m = record { who = y ∙ ap (λ (z : Actor). Ok (id z)) (sym (one (subst (OneOf v) only m))); reads = reads; by_own = λ x. refl }
        where
          one : OneOf v (w ∷ []) → v ≡ w
          one (inl z) = z
          one (inr z) = absurd z
      known lone u i m = absurd i

      knows : Known r.takers
      knows = known r.takers r.routine (taken_there o g h title first.region values k s t ps a.0 e a.1 r n).identified (one_running r.routine v a.0 own a.2)

      -- its own routine, or a procedure
      abbrev pub Its : Routine → Type 0
      Its u = (u ≡ r.routine) ⊎ OneOf u (procedure_routines g)

      -- procedures are called with the identifier
      abbrev called_with : {u : Routine} → Its u → Option Value
      called_with (inl q) = argument P s t S T X r.takers v
      called_with (inr q) = Some (id v)

      calls : (u : Routine) (its : Its u) → Calls u (called_with its)
      calls u (inl q) = subst (λ w. Calls w (argument P s t S T X r.takers v)) (sym q) (process_calls r n own)
      calls u (inr q) = procedure_calls u q

      runs_it : (u : Routine) → Its u → OneOf u (routines_of P v)
      runs_it u (inl q) = inl (q ∙ sym own)
      runs_it u (inr q) = inr q

      -- where the numbers are so, the action is called so
      call_is : (u : Routine) (its : Its u) → (other : OneOf u (procedure_routines g) → r.routine.number ≡ u.number → ⊥) → (x : Word) → call_holds plain here acts (action_call r u x) ≡ acted (acts x) (called_with its)
      call_is u (inl q) other x =
          ap (λ c. call_holds plain here acts (cond c (call_by r.takers x) (call_with x (identifier_of r.takers)))) (eq-eqb r.routine.number u.number (ap (λ (w : Routine). w.number) (sym q))) ∙ knows.by_own x
      call_is u (inr q) other x =
          ap (λ c. call_holds plain here acts (cond c (call_by r.takers x) (call_with x (identifier_of r.takers)))) (ne_eqb r.routine.number u.number (other q))
          ∙ ap (λ w. w >>= (λ z. acted (acts x) (Some z))) knows.who

      -- ---- obligations

      -- the process steps from one of these labels, by their written names
      abbrev pub Obliged : List Word → Type 0
      Obliged ls = (d : Stand) × OneOf (label_name P d.routine d.label) ls × StepFrom P v d s t

      one_stand : (d f : Stand) → StandsAt P s v d → StandsAt P s v f → d ≡ f
      one_stand = stands_once P o refl (writable o g h).few (clear_labels g o (rules_of_names g o h.accepted.names).3) s v a

      label_at : (u : Routine) (l : Word) → OneOf l (label_words u.body) → (b : Begin) × (at_label u l ≡ Some b)
      label_at u l m = by (at_label u l) refl (begins l unlabelled u.body u.exit (subst (OneOf l) (same_labels u.body) m))
        where
          by : (q : Option Begin) → at_label u l ≡ q → IsBegun q → (b : Begin) × (at_label u l ≡ Some b)
          by None q i = absurd i
          by (Some z) q i = (z, q)

      -- a step from a label of that name is one from the routine's label
      from_name : (u : Routine) → Its u → (l : Word) → OneOf l (label_words u.body) → (d : Stand) → label_name P d.routine d.label ≡ label_name P u l → StepFrom P v d s t → FromLabel P s t v u l
      from_name u its l m d q f =
          let (z, at) = label_at u l m in
          (z, at, subst (λ d. StepFrom P v d s t) (one_stand d (record { routine = u; label = l; begins = z }) f.0 (runs_it u its, at, f.0.2 ∙ ap (λ x. Ok (text x)) q)) f)

      -- and one from a routine's label that isn't left out
      module _ (u : Routine) (its : Its u) where
        abbrev names : List Word
        names = written_labels P u (label_words u.body)

        abbrev counted : List Word
        counted = written_labels P u (kept_labels u.body)

        abbrev left : List Word
        left = written_labels P u (left_out_labels u.body)

        obliged : among_texts read.value left ≡ false → FromRoutine P s t v u → Obliged counted
        obliged free f =
            let (l, m, (z, at, step)) = any_one (FromLabel P s t v u) (label_words u.body) f in
            let there = shared_one names counted left (labels_shared (label_name P u) u.body) (label_name P u l) (one_mapped (label_name P u) l (label_words u.body) m) in
            (record { routine = u; label = l; begins = z }, elim there [ inl q ↦ q | inr q ↦ absurd (both_ways (among_texts read.value left) free (ap (λ w. among_texts w left) (value_is step.0.2) ∙ held_from left (label_name P u l) q)) ], step)
          where
            value_is : {x : Word} → pc_of v s ≡ Ok (text x) → read.value ≡ text x
            value_is q = ap (λ (o : Outcome Value). elim o [ Ok z ↦ z | Err j ↦ read.value ]) (sym read.read ∙ q)

        obliging : Obliged counted → (among_texts read.value left ≡ false) × FromRoutine P s t v u
        obliging (d, m, f) =
            let name_there = shared_first names counted left (labels_shared (label_name P u) u.body) (label_name P d.routine d.label) m in
            let (l, one, q) = unmapped (label_name P u) (label_name P d.routine d.label) (label_words u.body) name_there in
            (by (among_texts read.value left) refl, one_any (FromLabel P s t v u) l (label_words u.body) one (from_name u its l one d q f))
          where
            is_text : (x : Word) → read.value ≡ text x → label_name P d.routine d.label ≡ x
            is_text x q = ap (λ (o : Outcome Value). elim o [ Ok (text z) ↦ z | Ok z ↦ x | Err j ↦ x ]) (sym f.0.2 ∙ read.read ∙ ap (λ z. Ok z) q)

            by : (c : Bool) → among_texts read.value left ≡ c → c ≡ false
            by false q = refl
            by true q =
                let (x, n, y) = held_to read.value left q in
                absurd (shared_apart names counted left (calls u its).apart (labels_shared (label_name P u) u.body) x (subst (λ z. OneOf z counted) (is_text x y) m) n)

        -- ---- formulas

        -- the test, and then the action, for this process
        abbrev pub LineTrue : Fairness → Obligation → Type 0
        LineTrue l ob = TrueExactly (and_then (guard_holds here l.guard) (call_holds plain here acts l.action)) (Obliged ob.labels)

        module _ (other : OneOf u (procedure_routines g) → r.routine.number ≡ u.number → ⊥) where
          pub routine_line : (strong : Bool) → LineTrue (line_of P (routine_steps r strong u)) (obligation_of P (routine_steps r strong u))
          routine_line strong =
              let x = P.naming.title u.number in
              tells_as _ ((among_texts read.value left ≡ false) × FromRoutine P s t v u) (Obliged counted)
              (tells_and (guard_holds here (guard_of r.takers left)) (call_holds plain here acts (action_call r u x)) (among_texts read.value left ≡ false) (FromRoutine P s t v u)
              (guard_true r.takers left here read.value (pc_at s here knows.reads v named_self read.value read.read (identifier_of r.takers) knows.who))
              (λ z. tells_of _ _ (FromRoutine P s t v u) (call_is u its other x) (calls u its).own))
              (λ z. obliged z.0 z.1) obliging

          pub label_line : (l : Word) → OneOf l (label_words u.body) → LineTrue (line_of P (label_steps r u l)) (obligation_of P (label_steps r u l))
          label_line l m =
              let x = label_name P u l in
              let holds = call_holds plain here acts (action_call r u x) in
              tells_as _ ((true ≡ true) × FromLabel P s t v u l) (Obliged (x ∷ []))
              (tells_and (Ok true) holds (true ≡ true) (FromLabel P s t v u l) (true, refl, ((λ z. z), (λ z. z))) (λ z. tells_of _ _ (FromLabel P s t v u l) (call_is u its other x) ((calls u its).label l m)))
              (λ z. (record { routine = u; label = l; begins = z.1.0 }, inl refl, z.1.2)) from
            where
              from : Obliged (label_name P u l ∷ []) → (true ≡ true) × FromLabel P s t v u l
              from (d, inl q, f) = (refl, from_name u its l m d q f)
              from (d, inr q, f) = absurd q
