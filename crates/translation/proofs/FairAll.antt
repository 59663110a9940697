-- All formulas of fairness of the module of an accepted algorithm, with what each is to be true of, for each process that it speaks of.
use Rattle.std.proofs.Common.{◌≡◌, ℕ, suc, ◌≤◌, length, List, [], ◌∷◌, map, Bool, true, false, cond, Some, ◌⊎◌, inl, inr, refl, sym, ap, ◌∙◌, subst, arith}
use Rattle.std.specs.Prelude.{flat_map}
use Rattle.std.specs.List.{AllByRecursion}
use Rattle.tla_tree.specs.Tree.{Word}
use Rattle.tla_value.specs.Value.{TrueExactly, and_then}
use Rattle.tla_value.specs.Outside.{Outside}
use Rattle.tla_value.specs.Stops.{plain}
use Rattle.tla_value.specs.Meaning.{Env}
use Rattle.tla_value.specs.Definitions.{Valuation}
use Rattle.module_tree.specs.Module.{Module, Fairness}
use Rattle.module_tree.specs.ModuleTruth.{scope}
use Rattle.module_tree.specs.ActionTruth.{acts_of, no_acts, call_holds}
use Rattle.pcal_tree.specs.declared.mark.Fairness.{Fairness as Wanted}
use Rattle.pcal_tree.specs.declared.mark.Fairness.TheVariants.{Unfair, Weak, Strong}
use Rattle.pcal_tree.specs.Algorithm.{Process, Main, alone, processes, Routine, numbered, first_procedure, first_process, procedure_routines, Algorithm}
use Rattle.pcal_tree.specs.Faults.{Sound}
use Rattle.pcal_tree.specs.OffencesLabels.{label_words}
use Rattle.pcal_tree.specs.Processes.{OneOf}
use Rattle.pcal_tree.specs.Program.{Program, Actor}
use Rattle.pcal_tree.specs.Programs.{program_in}
use Rattle.pcal_tree.specs.Scope.{State}
use Rattle.pcal_tree.specs.Takers.{Takers, each_of, single, lone, Taken, taken_process, taken_main}
use Rattle.pcal_tree.specs.Variables.{on_variables}
use Rattle.pcal_tree.proofs.OneStand.{every_both}
use Rattle.pcal_tree.proofs.ProcessesInOrder.{id}
use Rattle.action_builder.specs.NextFormula.{ended}
use Rattle.action_builder.specs.WrittenNames.{with_names}
use Rattle.action_builder.specs.laws.Ready.{Readable}
use Rattle.fairness.specs.Demands.{Demand, all_steps, routine_steps, label_steps, demands_in, demands_of, main_demands, demands}
use Rattle.fairness.specs.FairnessLines.{over_of, line_of}
use Rattle.fairness.specs.MarkedLabels.{strong_labels}
use Rattle.fairness.specs.Obligations.{obligation_of}
use Rattle.fairness.specs.ReachedProcedures.{reached}
use Rattle.promise.specs.ConstantsAndStates.{AreConstants, IsState}
use Rattle.translation.specs.Region.{region_of}
use Rattle.translation.specs.laws.AcceptedAlgorithm.{IsAcceptedInFile}
use Rattle.translation.specs.laws.ActionLaws.{guard_holds, env_over, StepsFromNames, Told}
use Rattle.translation.specs.laws.AcceptedLaws.{PreparedLaw, ReadyLaw}
use Rattle.fairness.proofs.LabelsShared.{strong_is_label}
use Rattle.translation.proofs.FairTrue.{routine_line, label_line}
use Rattle.translation.proofs.NextOfRegion.{SingleClearLaw}
use Rattle.translation.proofs.NextTitles.{all_actions}
use Rattle.translation.proofs.NextTrue.{env_for}
use Rattle.fairness.proofs.LinesByProcess.{numbered_below, reached_some}

-- ---- routines

taken_above : (n : ℕ) (ps : List Process) (r : Taken) → OneOf r (numbered taken_process n ps) → n ≤ r.routine.number
taken_above n [] r h = absurd h
taken_above n (p ∷ ps) r (inl e) = subst (λ k. n ≤ k) (sym (ap (λ (z : Taken). z.routine.number) e)) (omega arith)
taken_above n (p ∷ ps) r (inr h) = let b = taken_above (suc n) ps r h in omega arith

module _ (U : Algorithm → Readable) (prepared : PreparedLaw IsAcceptedInFile) (ready : ReadyLaw IsAcceptedInFile U) (clear : SingleClearLaw)
    (b : Bool) (title : Word) (o : Outside) (g : Algorithm) (h : IsAcceptedInFile o g) (values : Valuation) (s t : State) where
  abbrev first : Module
  first = record { title = title; outside = o; region = region_of b (with_names o g) }

  abbrev P : Program
  P = program_in plain o g values

  abbrev S : Valuation
  S = on_variables P s

  abbrev T : Valuation
  T = on_variables P t

  abbrev X : Env
  X = scope plain first values S T

  abbrev IsTold : Demand → Type 0
  IsTold D = Told first P values s t D

  module _ (k : AreConstants first values) (is : IsState P s) (it : IsState P t) (sound : Sound P s) where
    module _ (ps : List Process) (e : g.main ≡ processes ps) (r : Taken) (n : OneOf r (taken_main g (processes ps))) where
      abbrev Its : Routine → Type 0
      Its u = (u ≡ r.routine) ⊎ OneOf u (procedure_routines g)

      other : (u : Routine) → OneOf u (procedure_routines g) → r.routine.number ≡ u.number → ⊥
      other u m q = (let below = numbered_below (first_procedure g) g.procedures u m in let above = taken_above (first_process g) ps r n in absurd (omega (arith, below, above, q)))

      some_is : {A : Type 0} {x y : A} → Some x ≡ Some y → x ≡ y
      some_is q = cc

      env_is : (c : Takers) (v : Actor) → env_for P s t S T X c v ≡ env_over (over_of c) (id v) X
      env_is (each_of f) v = refl
      env_is (single f) v = refl
      env_is lone v = refl

      abbrev LineIn : Actor → Fairness → List Word → Env → Main → Type 0
      LineIn v l ls env m =
          TrueExactly (and_then (guard_holds env l.guard) (call_holds plain env (acts_of plain S T X (all_actions o g h values m (ended b m)) no_acts) l.action)) (StepsFromNames P v ls s t)

      -- the bound name is that of who takes the steps
      told : (v : Actor) (l : Fairness) (ls : List Word) → l.over ≡ over_of r.takers → LineIn v l ls (env_for P s t S T X r.takers v) (processes ps) → LineIn v l ls (env_over l.over (id v) X) g.main
      told v l ls q d = subst (LineIn v l ls (env_over l.over (id v) X)) (sym e) (subst (λ n. LineIn v l ls n (processes ps)) (env_is r.takers v ∙ ap (λ c. env_over c (id v) X) (sym q)) d)

      steps_told : (u : Routine) → Its u → (strong : Bool) → IsTold (routine_steps r strong u)
      steps_told u its strong z q v a own =
          told v (line_of P (routine_steps r strong u)) (obligation_of P (routine_steps r strong u)).labels refl
          (routine_line U prepared ready clear b title o g h values s t k is it sound ps e v a r n (own ∙ ap (λ (y : Taken). y.routine) (sym (some_is q))) u its (other u) strong)

      label_told : (u : Routine) → Its u → (l : Word) → OneOf l (label_words u.body) → IsTold (label_steps r u l)
      label_told u its l m z q v a own =
          told v (line_of P (label_steps r u l)) (obligation_of P (label_steps r u l)).labels refl
          (label_line U prepared ready clear b title o g h values s t k is it sound ps e v a r n (own ∙ ap (λ (y : Taken). y.routine) (sym (some_is q))) u its (other u) l m)

      labels_told : (u : Routine) → Its u → (ls : List Word) → ((l : Word) → OneOf l ls → OneOf l (strong_labels u.body)) → AllByRecursion IsTold (map (label_steps r u) ls)
      labels_told u its [] f = tt
      labels_told u its (l ∷ ls) f = (label_told u its l (strong_is_label l u.body (f l (inl refl))), labels_told u its ls (λ m q. f m (inr q)))

      routine_told : (strong : Bool) (u : Routine) → Its u → AllByRecursion IsTold (demands_in r strong u)
      routine_told strong u its = (steps_told u its strong, by strong)
        where
          by : (c : Bool) → AllByRecursion IsTold (cond c [] (map (label_steps r u) (strong_labels u.body)))
          by true = tt
          by false = labels_told u its (strong_labels u.body) (λ l q. q)

      routines_told : (strong : Bool) (us : List Routine) → ((u : Routine) → OneOf u us → Its u) → AllByRecursion IsTold (flat_map (demands_in r strong) us)
      routines_told strong [] f = tt
      routines_told strong (u ∷ us) f = every_both IsTold (demands_in r strong u) (flat_map (demands_in r strong) us) (routine_told strong u (f u (inl refl))) (routines_told strong us (λ v m. f v (inr m)))

      -- its own body, and what it reaches
      all_its : (u : Routine) → OneOf u (r.routine ∷ reached g r.routine) → Its u
      all_its u (inl q) = inl q
      all_its u (inr m) = inr (reached_some (length g.procedures) g r.routine u m)

      process_told : (f : Wanted) → AllByRecursion IsTold (demands_of g f r)
      process_told Unfair = tt
      process_told Weak = routines_told false (r.routine ∷ reached g r.routine) all_its
      process_told Strong = routines_told true (r.routine ∷ reached g r.routine) all_its

    processes_told : (ps : List Process) → g.main ≡ processes ps → (n : ℕ) (qs : List Process) → ((r : Taken) → OneOf r (numbered taken_process n qs) → OneOf r (taken_main g (processes ps)))
        → AllByRecursion IsTold (flat_map (λ ds. ds) (numbered (λ n p. demands_of g p.fairness (taken_process n p)) n qs))
    processes_told ps e n [] f = tt
    processes_told ps e n (p ∷ qs) f =
        every_both IsTold (demands_of g p.fairness (taken_process n p)) _ (process_told ps e (taken_process n p) (f (taken_process n p) (inl refl)) p.fairness) (processes_told ps e (suc n) qs (λ r m. f r (inr m)))

    main_told : (m : Main) → g.main ≡ m → AllByRecursion IsTold (main_demands g m)
    main_told (alone ss) e = tt
    main_told (processes ps) e = processes_told ps e (first_process g) ps (λ r m. m)

    top_told : (c : Bool) → AllByRecursion IsTold (cond c (all_steps ∷ []) [])
    top_told true = ((λ r q. cc), tt)
    top_told false = tt

    -- each formula, for each process that it is of
    pub fairness_told : AllByRecursion IsTold (demands g)
    fairness_told = every_both IsTold (cond g.fair (all_steps ∷ []) []) (main_demands g g.main) (top_told g.fair) (main_told g.main refl)
