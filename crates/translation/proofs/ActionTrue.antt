-- The action of each label of an accepted algorithm, called by a process that may run its routine, is true exactly of the process's steps from that label, from sound states.
use Rattle.std.proofs.Common.{◌≡◌, ℕ, suc, List, [], ◌∷◌, ◌++◌, Bool, true, false, cond, Option, Some, None, inl, inr, refl, sym, ap, ◌∙◌, subst, Ok}
use Rattle.std.specs.List.{flat_map}
use Rattle.tla_tree.specs.Tree.{Word}
use Rattle.tla_value.specs.Value.{Value, TrueExactly}
use Rattle.tla_value.specs.Outside.{Outside}
use Rattle.tla_value.specs.Stops.{plain}
use Rattle.tla_value.specs.Meaning.{Env}
use Rattle.tla_value.specs.Definitions.{Valuation, scope_of}
use Rattle.module_tree.specs.Formulas.{process_set}
use Rattle.module_tree.specs.Module.{Module}
use Rattle.module_tree.specs.ModuleTruth.{terminating, action_holds}
use Rattle.module_tree.specs.ActionTruth.{Acts, acted, acts_of, no_acts}
use Rattle.module_tree.proofs.Tells.{tells_as, tells_of}
use Rattle.pcal_tree.specs.Algorithm.{Process, Procedure, Main, alone, processes, Routine, procedure_routine, numbered, alone_routine, first_procedure, first_process, procedure_routines, main_routines, Algorithm}
use Rattle.pcal_tree.specs.Calls.{label_name}
use Rattle.pcal_tree.specs.Faults.{Sound}
use Rattle.pcal_tree.specs.InitialStates.{running}
use Rattle.pcal_tree.specs.OffencesLabels.{label_words}
use Rattle.pcal_tree.specs.Processes.{OneOf, identifier, IsActor}
use Rattle.pcal_tree.specs.Program.{Program, Actor}
use Rattle.pcal_tree.specs.Programs.{program_in}
use Rattle.pcal_tree.specs.Scope.{State}
use Rattle.pcal_tree.specs.Step.{Stand, routines_of, StepFrom}
use Rattle.pcal_tree.specs.Takers.{Takers, each_of, single, lone, Taken, taken_process, taken_main}
use Rattle.pcal_tree.specs.Variables.{vars}
use Rattle.pcal_tree.proofs.OneStand.{own_is_main}
use Rattle.pcal_tree.proofs.ProcessesInOrder.{id}
use Rattle.pcal_tree.proofs.TroubleLaws.{label_listed}
use Rattle.action_builder.specs.LabelActions.{label_actions, routine_actions, taken_procedures, procedure_takers, main_actions}
use Rattle.action_builder.specs.NextFormula.{ended}
use Rattle.action_builder.specs.WrittenNames.{with_names}
use Rattle.action_builder.specs.laws.Ready.{Readable, values_of}
use Rattle.action_builder.specs.laws.WrittenScope.{definitions_of}
use Rattle.promise.specs.ConstantsAndStates.{AreConstants, IsState}
use Rattle.translation.specs.Region.{region_of}
use Rattle.translation.specs.laws.AcceptedAlgorithm.{IsAcceptedInFile}
use Rattle.translation.specs.laws.AcceptedLaws.{extra_of, Stance, PreparedLaw, ReadyLaw, ActionLaw}
use Rattle.translation.proofs.NamesApart.{self_some, self_none}
use Rattle.translation.proofs.NextFound.{FindsLabels, within_flat, within_first, within_last, one_mapped, labels_found, labels_of_own}
use Rattle.translation.proofs.NextOfRegion.{SingleClearLaw}
use Rattle.translation.proofs.NextLabels.{named_true, lone_true, single_true}
use Rattle.translation.proofs.NextScopes.{numbered_of, names_sound, names_by_value, Identified, taken_there}
use Rattle.translation.proofs.NextSteps.{one_running, main_taken}
use Rattle.translation.proofs.NextTitles.{all_actions, titles_once}
use Rattle.translation.proofs.NextTrue.{FromLabel, argument, LabelTrue}

-- ---- whose variables are functions of identifiers

abbrev spreads : Takers → Bool
spreads (each_of e) = true
spreads _ = false

spread_taken : (r : Taken) (n : ℕ) (ps : List Process) → OneOf r (numbered taken_process n ps) → r.routine.spread ≡ spreads r.takers
spread_taken r n ps k = (let m = numbered_of r n ps k in subst (λ (z : Taken). z.routine.spread ≡ spreads z.takers) (sym m.is) (by m.process m.process.several))
  where
    by : (p : Process) (b : Bool) → b ≡ spreads (cond b (each_of p.identity) (single p.identity))
    by p true = refl
    by p false = refl

spread_procedure : (u : Routine) (n : ℕ) (ps : List Procedure) → OneOf u (numbered procedure_routine n ps) → u.spread ≡ true
spread_procedure u n [] h = absurd h
spread_procedure u n (p ∷ ps) (inl e) = ap (λ (w : Routine). w.spread) e
spread_procedure u n (p ∷ ps) (inr k) = spread_procedure u (suc n) ps k

nothing_for : (b : Bool) (w : Option Value) → w ≡ None → None ≡ cond b w None
nothing_for true w e = sym e
nothing_for false w e = refl

module _ (U : Algorithm → Readable) (prepared : PreparedLaw IsAcceptedInFile) (ready : ReadyLaw IsAcceptedInFile U) (clear : SingleClearLaw) where
  module _ (b : Bool) (title : Word) (o : Outside) (g : Algorithm) (h : IsAcceptedInFile o g) (values : Valuation) (s t : State) where
    abbrev first : Module
    first = record { title = title; outside = o; region = region_of b (with_names o g) }

    abbrev P : Program
    P = program_in plain o g values

    abbrev S : Valuation
    S = values_of (vars P) s

    abbrev T : Valuation
    T = values_of (vars P) t

    abbrev X : Env
    X = scope_of plain values (definitions_of P ++ extra_of g) S T

    abbrev pub acts : Main → Acts
    acts m = acts_of plain S T X (all_actions o g h values m (ended b m)) no_acts

    -- under the names of a routine's labels are their actions, true of the process's steps
    pub record Runs (m : Main) (v : Actor) (u : Routine) (takers : Takers) : Type 0 where
      pub argued : argument P s t S T X takers v ≡ cond u.spread v.self None
      pub found : FindsLabels S T X P (acts m) (record { takers = takers; routine = u })
      pub labels : LabelTrue P s t S T X (record { takers = takers; routine = u }) v

    module _ (k : AreConstants first values) (is : IsState P s) (it : IsState P t) (sound : Sound P s) where
      procedure_labels : (m : Main) → g.main ≡ m → (u : Routine) → OneOf u (procedure_routines g) → FindsLabels S T X P (acts m) (record { takers = procedure_takers m; routine = u })
      procedure_labels m e u n =
          let r : Taken = record { takers = procedure_takers m; routine = u } in
          labels_found S T X P (all_actions o g h values m (ended b m)) no_acts r
          (labels_of_own S T X P (all_actions o g h values m (ended b m)) r (within_first (routine_actions P) r _ (terminating (vars P) (ended b m)) (within_first (routine_actions P) r _ (main_actions P m)
          (within_flat (routine_actions P) r (taken_procedures g) (subst (λ z. OneOf (record { takers = procedure_takers z; routine = u }) (taken_procedures g)) e (one_mapped (λ w. record { takers = procedure_takers g.main; routine = w }) u (procedure_routines g) n))))))
          (titles_once o g h values m e (ended b m))

      -- ---- one body

      module _ (ss : _) (e : g.main ≡ alone ss) (v : Actor) (a : IsActor P v) where
        body : Routine
        body = alone_routine g ss

        body_labels : FindsLabels S T X P (acts (alone ss)) (record { takers = lone; routine = alone_routine g ss })
        body_labels =
            labels_found S T X P (all_actions o g h values (alone ss) (ended b (alone ss))) no_acts (record { takers = lone; routine = alone_routine g ss })
            (within_first (label_actions P) _ _ (terminating (vars P) (ended b (alone ss))) (within_last (label_actions P) _ (flat_map (routine_actions P) (taken_procedures g)) (main_actions P (alone ss))
            (within_flat (label_actions P) (record { takers = lone; routine = alone_routine g ss }) (taken_main g (alone ss)) (inl refl))))
            (titles_once o g h values (alone ss) e (ended b (alone ss)))

        self_is : v.self ≡ None
        self_is = self_none P v ss e a

        own_body : OneOf v.own (main_routines g (alone ss)) → v.own ≡ alone_routine g ss
        own_body (inl q) = q
        own_body (inr q) = absurd q

        alone_runs : (u : Routine) → OneOf u (routines_of P v) → Runs (alone ss) v u lone
        alone_runs u n = record {
          argued = nothing_for u.spread v.self self_is;
          found = by n;
          labels = lone_true (U g) prepared o g h values (ready o g h values) k.unset s t sound v self_is a u n;
        }
          where
            by : OneOf u (routines_of P v) → FindsLabels S T X P (acts (alone ss)) (record { takers = lone; routine = u })
            by (inl q) =
                subst (λ w. FindsLabels S T X P (acts (alone ss)) (record { takers = lone; routine = w }))
                (sym (q ∙ own_body (subst (λ m. OneOf v.own (main_routines g m)) e (own_is_main P v a)))) body_labels
            by (inr q) = procedure_labels (alone ss) e u q

      -- ---- processes

      module _ (ps : List Process) (e : g.main ≡ processes ps) (v : Actor) (a : IsActor P v) where
        identified : v.self ≡ Some (id v)
        identified = (let (w, q) = self_some P v ps e a in q ∙ ap (λ z. Some z) (sym (ap identifier q)))

        pub procedure_runs : (u : Routine) → OneOf u (procedure_routines g) → Runs (processes ps) v u (each_of process_set)
        procedure_runs u n = record {
          argued = sym identified ∙ ap (λ c. cond c v.self None) (sym (spread_procedure u (first_procedure g) g.procedures n));
          found = procedure_labels (processes ps) e u n;
          labels = named_true (U g) prepared o g h values (ready o g h values) k.unset s t sound v identified a u (inr n) process_set;
        }

        own_labels : (r : Taken) → OneOf r (taken_main g (processes ps)) → FindsLabels S T X P (acts (processes ps)) r
        own_labels r n =
            labels_found S T X P (all_actions o g h values (processes ps) (ended b (processes ps))) no_acts r
            (labels_of_own S T X P (all_actions o g h values (processes ps) (ended b (processes ps))) r (within_first (routine_actions P) r _ (terminating (vars P) (ended b (processes ps))) (within_last (routine_actions P) r (flat_map (routine_actions P) (taken_procedures g)) (main_actions P (processes ps))
            (within_flat (routine_actions P) r (taken_main g (processes ps)) n))))
            (titles_once o g h values (processes ps) e (ended b (processes ps)))

        -- by who takes its own steps
        taken_runs : (c : Takers) (u : Routine) → OneOf (record { takers = c; routine = u }) (taken_main g (processes ps)) → v.own ≡ u → u.spread ≡ spreads c
            → Identified o g h title first.region values k s t c (running u a.0) → OneOf v (running u a.0) → Runs (processes ps) v u c
        taken_runs (each_of f) u n q d i m = record {
          argued = sym identified ∙ ap (λ c. cond c v.self None) (sym d);
          found = own_labels (record { takers = each_of f; routine = u }) n;
          labels = named_true (U g) prepared o g h values (ready o g h values) k.unset s t sound v identified a u (inl (sym q)) f;
        }
        taken_runs (single f) u n q d (w, only, y) m = record {
          argued = ap (λ c. cond c v.self None) (sym d);
          found = own_labels (record { takers = single f; routine = u }) n;
          labels =
              single_true (U g) prepared o g h values (ready o g h values) k.unset s t sound (names_sound o g h title first.region values k s t is it) (names_by_value o g h title first.region values k s t) v identified a u (inl (sym q)) f
              (y ∙ ap (λ (z : Actor). Ok (id z)) (sym (one (subst (OneOf v) only m))))
              (clear o g h values (record { takers = single f; routine = u }) (subst (λ z. OneOf (record { takers = single f; routine = u }) (taken_main g z)) (sym e) n) f refl);
        }
          where
            one : OneOf v (w ∷ []) → v ≡ w
            one (inl z) = z
            one (inr z) = absurd z
        taken_runs lone u n q d i m = absurd i

        pub process_runs : (r : Taken) → OneOf r (taken_main g (processes ps)) → v.own ≡ r.routine → Runs (processes ps) v r.routine r.takers
        process_runs r n q =
            taken_runs r.takers r.routine n q (spread_taken r (first_process g) ps n) (taken_there o g h title first.region values k s t ps a.0 e a.1 r n).identified (one_running r.routine v a.0 q a.2)

        processes_run : (u : Routine) → OneOf u (routines_of P v) → (c : Takers) × Runs (processes ps) v u c
        processes_run u (inr n) = (each_of process_set, procedure_runs u n)
        processes_run u (inl q) =
            let (r, n, d) = main_taken g (processes ps) v.own (subst (λ m. OneOf v.own (main_routines g m)) e (own_is_main P v a)) in
            subst (λ w. (c : Takers) × Runs (processes ps) v w c) (d ∙ sym q) (r.takers, process_runs r n (sym d))

      pub routine_runs : (m : Main) → g.main ≡ m → (v : Actor) → IsActor P v → (u : Routine) → OneOf u (routines_of P v) → (c : Takers) × Runs m v u c
      routine_runs (alone ss) e v a u n = (lone, alone_runs ss e v a u n)
      routine_runs (processes ps) e v a u n = processes_run ps e v a u n

      -- ---- one action

      label_called : (m : Main) (v : Actor) (u : Routine) (c : Takers) → Runs m v u c → (l : Word) → OneOf l (label_words u.body) → TrueExactly (acted (acts m (label_name P u l)) (argument P s t S T X c v)) (FromLabel P s t v u l)
      label_called m v u (each_of e) r l n = tells_of _ _ (FromLabel P s t v u l) (ap (λ f. acted f (Some (id v))) (r.found l n).1) (r.labels l n)
      label_called m v u (single e) r l n = tells_of _ _ (FromLabel P s t v u l) (ap (λ f. acted f None) (r.found l n).1) (r.labels l n)
      label_called m v u lone r l n = tells_of _ _ (FromLabel P s t v u l) (ap (λ f. acted f None) (r.found l n).1) (r.labels l n)

      some_is : {A : Type 0} {x y : A} → Some x ≡ Some y → x ≡ y
      some_is e = cc

      pub action_is : (v : Actor) (d : Stand) → Stance P v d
          → TrueExactly (action_holds plain first values S T (label_name P d.routine d.label) (cond d.routine.spread v.self None)) (StepFrom P v d s t)
      action_is v d x =
          let (c, r) = routine_runs g.main refl v x.actor d.routine x.routine in
          subst (λ w. TrueExactly (acted (acts g.main (label_name P d.routine d.label)) w) (StepFrom P v d s t)) r.argued
          (tells_as _ (FromLabel P s t v d.routine d.label) (StepFrom P v d s t) (label_called g.main v d.routine c r d.label (label_listed d.routine d.label d.begins x.label)) from (λ f. (d.begins, x.label, f)))
        where
          from : FromLabel P s t v d.routine d.label → StepFrom P v d s t
          from (y, at, f) = subst (λ z. StepFrom P v (record { routine = d.routine; label = d.label; begins = z }) s t) (some_is (sym at ∙ x.label)) f

  -- an action that stands in a formula of fairness, for each process that takes it
  pub action_law : ActionLaw IsAcceptedInFile
  action_law b title o g h values s t v d k is it sound x = action_is b title o g h values s t k is it sound v d x
