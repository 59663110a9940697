-- From each label of an accepted algorithm on, macro calls capture nothing, no name that is bound is a routine's or a written one, and what is read is seen in the routine.
use Rattle.std.proofs.Common.{◌≡◌, ℕ, suc, List, [], ◌∷◌, ◌++◌, Bool, true, false, not, ◌||◌, ◌&&◌, cond, bytes_eq, codes, reverse, Some, None, ◌⊎◌, inl, inr, refl, sym, ◌∙◌, ap, subst}
use Rattle.std.specs.List.{flat_map}
use Rattle.std.proofs.lemmas.Bool.{or_left, or_right}
use Rattle.std.proofs.lemmas.Slice.Eq.{bytes_eq-Decides}
use Rattle.tla_token.specs.declared.place.Place.{Place}
use Rattle.tla_token.specs.Signs.{is_among}
use Rattle.tla_token.specs.Words.{is_own}
use Rattle.tla_tree.specs.Tree.{Word, words, binders, name, node, no_trees}
use Rattle.tla_value.specs.Stops.{plain}
use Rattle.tla_value.specs.Definitions.{Valuation}
use Rattle.tla_value.specs.Outside.{Outside}
use Rattle.tla_value.specs.laws.Grafting.{Apart, NotFreeIn}
use Rattle.pcal_tree.specs.Algorithm as tree
use Rattle.pcal_tree.specs.Algorithm.{declares, Assignments, no_assignments, assignment, Binds, no_binds, one_of, is, Statement, assign, await, print, assert, skip, branch, either, with, while, goto, macro, call, return, Statements, done, then, mark, Branches, no_branches, or, Macro, Procedure, Process, Main, alone, processes, Routine, locals, procedure_routine, process_routine, alone_routine, numbered, first_procedure, first_process, procedure_routines, main_routines, routines, Algorithm}
use Rattle.pcal_tree.specs.BoundNames.{all_of, lists_in, lists_in_body, lists_in_declared, lists_in_procedure, lists_in_process, lists_in_main, bound_lists}
use Rattle.pcal_tree.specs.Expand.{expanded}
use Rattle.pcal_tree.specs.Names.{kept}
use Rattle.pcal_tree.specs.NameUses.{knowing, variable, seeing_variables}
use Rattle.pcal_tree.specs.OffencesNames.{in_whole, in_declared, in_definitions, in_body, in_procedure, in_process, in_main, macro_offences, sight_outside, sight_inside, use_offences_of}
use Rattle.pcal_tree.specs.OffencesRebind.{Standings, naming, stands_for, in_scope, may_rebind, whole_rebinds, starts_rebind, any_name, body_rebinds, macro_rebinds, texts_rebind, definitions_rebind, locals_rebind, procedure_rebinds, in_process_body, process_rebinds, main_rebinds, standing_outside, standing_inside, bound_by, rebind_offences_of}
use Rattle.pcal_tree.specs.Processes.{OneOf}
use Rattle.pcal_tree.specs.Program.{Program, written}
use Rattle.pcal_tree.specs.Programs.{program_in}
use Rattle.pcal_tree.specs.Run.{unlabelled}
use Rattle.pcal_tree.specs.Step.{Stand}
use Rattle.pcal_tree.specs.StepStart.{at_label}
use Rattle.pcal_tree.specs.Variables.{declared, pc, stack, vars}
use Rattle.pcal_tree.specs.laws.Expansion.{Calls, FineCall}
use Rattle.pcal_tree.specs.laws.ReadNames.{ReadsOne, ReadsBody, ReadsBranches, ReadsOneAlways, ReadsAlways, ReadsSomeAlways}
use Rattle.pcal_tree.proofs.CallsFine.{Sees, nothing_captured, throughout_both}
use Rattle.pcal_tree.proofs.ClearLabels.{both_none}
use Rattle.pcal_tree.proofs.NamesSeen.{body_reads, calls_read}
use Rattle.pcal_tree.proofs.NothingCaptured.{Free, BindsFree, written_bare}
use Rattle.pcal_tree.proofs.OneStand.{runs_routine}
use Rattle.pcal_tree.proofs.RoutineNames.{one_either}
use Rattle.pcal_tree.proofs.Uncaptured.{throughout_weaker, uncaptured}
use Rattle.action_builder.specs.WrittenNames.{renames}
use Rattle.action_builder.specs.laws.StepsOfLabels.{NamesGiven}
use Rattle.action_builder.specs.laws.WrittenScope.{titles, common, Common, Seen}
use Rattle.translation.specs.laws.AcceptedAlgorithm.{IsAcceptedInFile}
use Rattle.translation.specs.laws.AcceptedLaws.{extra_of, NamesGivenLaw}
use Rattle.translation.proofs.BoundOf.{AllIn, BindsAll, in_both, body_bound, withs_in, macros_in}
use Rattle.translation.proofs.FromLabels.{from_label, calls_pass, bound_pass, More, NoneAgain, again_pass, UsedIn, used_pass}
use Rattle.translation.proofs.MacrosSound.{macros_bound, macros_sound, in_named, InScope, seen_in_scope, kept_of}
use Rattle.translation.proofs.NamedBodies.{among_one}
use Rattle.translation.proofs.NamesApart.{free, kept_differs, used_outside, global_common, defined_common, own_differs, extra_own, false_among, never}
use Rattle.translation.proofs.NamesInSight.{sees_map, sees_inside}
use Rattle.translation.proofs.NamesOfRules.{Unreserved, not_own, turned, rules_of_names}
use Rattle.translation.proofs.RoutinesNamed.{one_each_of, among_later}
use Rattle.translation.proofs.VariableNames.{each_to, each_from, none_among, one_is_among, vars_each, each_two}

-- ---- of each routine

module _ (o : Outside) (a : Algorithm) where
  -- no use of a name in its body offends
  abbrev Used : Routine → Type 0
  Used u = in_body (macro_offences (reverse a.macros) a.procedures) a.procedures u.body (seeing_variables (declared (locals u)) (sight_inside a o)) ≡ []

  procedures_used : (n : ℕ) (ps : List Procedure) → flat_map (in_procedure (macro_offences (reverse a.macros) a.procedures) a.procedures (sight_inside a o)) ps ≡ [] → (u : Routine) → OneOf u (numbered procedure_routine n ps) → Used u
  procedures_used n [] q u k = absurd k
  procedures_used n (p ∷ ps) q u (inl e) =
      let r = both_none (in_procedure (macro_offences (reverse a.macros) a.procedures) a.procedures (sight_inside a o) p) _ q in
      subst Used (sym e) (both_none (in_declared (p.params ++ p.variables) (seeing_variables (declared (p.params ++ p.variables)) (sight_inside a o))) _ r.0).1
  procedures_used n (p ∷ ps) q u (inr k) = procedures_used (suc n) ps (both_none (in_procedure (macro_offences (reverse a.macros) a.procedures) a.procedures (sight_inside a o) p) _ q).1 u k

  processes_used : (n : ℕ) (ps : List Process) → flat_map (in_process (macro_offences (reverse a.macros) a.procedures) a.procedures (sight_inside a o)) ps ≡ [] → (u : Routine) → OneOf u (numbered process_routine n ps) → Used u
  processes_used n [] q u k = absurd k
  processes_used n (p ∷ ps) q u (inl e) =
      let r = both_none (in_process (macro_offences (reverse a.macros) a.procedures) a.procedures (sight_inside a o) p) _ q in
      subst Used (sym e) (both_none (in_declared p.variables (seeing_variables (declared p.variables) (sight_inside a o))) _ (both_none (in_whole p.identity (sight_inside a o)) _ r.0).1).1
  processes_used n (p ∷ ps) q u (inr k) = processes_used (suc n) ps (both_none (in_process (macro_offences (reverse a.macros) a.procedures) a.procedures (sight_inside a o) p) _ q).1 u k

  main_used : (m : Main) → in_main (macro_offences (reverse a.macros) a.procedures) a.procedures (sight_inside a o) m ≡ [] → (u : Routine) → OneOf u (main_routines a m) → Used u
  main_used (alone b) q u (inl e) = subst Used (sym e) q
  main_used (alone b) q u (inr k) = absurd k
  main_used (processes ps) q u k = processes_used (first_process a) ps q u k

  pub routine_used : use_offences_of a o ≡ [] → (u : Routine) → OneOf u (routines a) → Used u
  routine_used q u k =
      let d = (both_none (in_declared a.globals (sight_inside a o)) _ q).1 in
      let e = (both_none (in_definitions a.definitions (seeing_variables (declared a.globals) (sight_outside o))) _ d).1 in
      let r = both_none (flat_map (in_procedure (macro_offences (reverse a.macros) a.procedures) a.procedures (sight_inside a o)) a.procedures) _ e in
      by r.0 r.1 (one_either u (procedure_routines a) (main_routines a a.main) k)
    where
      by : flat_map (in_procedure (macro_offences (reverse a.macros) a.procedures) a.procedures (sight_inside a o)) a.procedures ≡ [] → in_main (macro_offences (reverse a.macros) a.procedures) a.procedures (sight_inside a o) a.main ≡ []
          → OneOf u (procedure_routines a) ⊎ OneOf u (main_routines a a.main) → Used u
      by r m (inl c) = procedures_used (first_procedure a) a.procedures r u c
      by r m (inr c) = main_used a.main m u c

  -- nothing in its body is bound again; in the body of a single process `self` stands for more
  pub record BoundOnce (u : Routine) : Type 0 where
    pub standings : Standings
    pub none : body_rebinds o.extended a.procedures (macro_rebinds o.extended a.procedures (reverse a.macros)) u.body standings ≡ []
    pub scope : (y : Word) → in_scope standings y ≡ in_scope (naming (declared (locals u)) (standing_inside a o)) y

  procedures_once : (n : ℕ) (ps : List Procedure) → flat_map (procedure_rebinds o.extended a.procedures (macro_rebinds o.extended a.procedures (reverse a.macros)) (standing_inside a o)) ps ≡ [] → (u : Routine) → OneOf u (numbered procedure_routine n ps) → BoundOnce u
  procedures_once n [] q u k = absurd k
  procedures_once n (p ∷ ps) q u (inl e) =
      let r = both_none (procedure_rebinds o.extended a.procedures (macro_rebinds o.extended a.procedures (reverse a.macros)) (standing_inside a o) p) _ q in
      subst BoundOnce (sym e)
      (record {
        standings = naming (declared (p.params ++ p.variables)) (standing_inside a o);
        none = (both_none (locals_rebind o.extended (p.params ++ p.variables) (standing_inside a o)) _ r.0).1;
        scope = λ y. refl;
      })
  procedures_once n (p ∷ ps) q u (inr k) = procedures_once (suc n) ps (both_none (procedure_rebinds o.extended a.procedures (macro_rebinds o.extended a.procedures (reverse a.macros)) (standing_inside a o) p) _ q).1 u k

  processes_once : (n : ℕ) (ps : List Process) → flat_map (process_rebinds o.extended a.procedures (macro_rebinds o.extended a.procedures (reverse a.macros)) (standing_inside a o)) ps ≡ [] → (u : Routine) → OneOf u (numbered process_routine n ps) → BoundOnce u
  processes_once n [] q u k = absurd k
  processes_once n (p ∷ ps) q u (inl e) =
      let r = both_none (process_rebinds o.extended a.procedures (macro_rebinds o.extended a.procedures (reverse a.macros)) (standing_inside a o) p) _ q in
      subst BoundOnce (sym e)
      (record {
        standings = in_process_body p (standing_inside a o);
        none = (both_none (locals_rebind o.extended p.variables (standing_inside a o)) _ (both_none (whole_rebinds o.extended p.identity (standing_inside a o)) _ r.0).1).1;
        scope = λ y. by y p.several;
      })
    where
      by : (y : Word) (b : Bool) → in_scope (cond b (naming (declared p.variables) (standing_inside a o)) (stands_for (codes "self") (bound_by p.identity (standing_inside a o)) ∷ naming (declared p.variables) (standing_inside a o))) y
          ≡ in_scope (naming (declared p.variables) (standing_inside a o)) y
      by y true = refl
      by y false = refl
  processes_once n (p ∷ ps) q u (inr k) = processes_once (suc n) ps (both_none (process_rebinds o.extended a.procedures (macro_rebinds o.extended a.procedures (reverse a.macros)) (standing_inside a o) p) _ q).1 u k

  main_once : (m : Main) → main_rebinds o.extended a.procedures (macro_rebinds o.extended a.procedures (reverse a.macros)) (standing_inside a o) m ≡ [] → (u : Routine) → OneOf u (main_routines a m) → BoundOnce u
  main_once (alone b) q u (inl e) = subst BoundOnce (sym e) (record { standings = standing_inside a o; none = q; scope = λ y. refl })
  main_once (alone b) q u (inr k) = absurd k
  main_once (processes ps) q u k = processes_once (first_process a) ps q u k

  pub routine_once : rebind_offences_of a o ≡ [] → (u : Routine) → OneOf u (routines a) → BoundOnce u
  routine_once q u k =
      let i = both_none (starts_rebind o.extended any_name a.globals (standing_inside a o)) _ q in
      let j = both_none (definitions_rebind o.extended a.definitions (standing_outside a o)) _ i.1 in
      let l = both_none (texts_rebind o.extended a.procedures (macro_rebinds o.extended a.procedures) (standing_inside a o) (reverse a.macros)) _ j.1 in
      let r = both_none (flat_map (procedure_rebinds o.extended a.procedures (macro_rebinds o.extended a.procedures (reverse a.macros)) (standing_inside a o)) a.procedures) _ l.1 in
      by r.0 r.1 (one_either u (procedure_routines a) (main_routines a a.main) k)
    where
      by : flat_map (procedure_rebinds o.extended a.procedures (macro_rebinds o.extended a.procedures (reverse a.macros)) (standing_inside a o)) a.procedures ≡ [] → main_rebinds o.extended a.procedures (macro_rebinds o.extended a.procedures (reverse a.macros)) (standing_inside a o) a.main ≡ []
          → OneOf u (procedure_routines a) ⊎ OneOf u (main_routines a a.main) → BoundOnce u
      by r m (inl c) = procedures_once (first_procedure a) a.procedures r u c
      by r m (inr c) = main_once a.main m u c

  -- all that its body binds is bound in the algorithm
  module _ (N : Word → Type 0) where
    procedures_bound : (n : ℕ) (ps : List Procedure) → AllIn N (flat_map lists_in_procedure ps) → (u : Routine) → OneOf u (numbered procedure_routine n ps) → AllIn N (lists_in_body u.body)
    procedures_bound n [] h u k = absurd k
    procedures_bound n (p ∷ ps) h u (inl e) =
        subst (λ (w : Routine). AllIn N (lists_in_body w.body)) (sym e) (in_both N (lists_in_declared (p.params ++ p.variables)) (lists_in_body p.body) (in_both N (lists_in_procedure p) _ h).0).1
    procedures_bound n (p ∷ ps) h u (inr k) = procedures_bound (suc n) ps (in_both N (lists_in_procedure p) _ h).1 u k

    processes_bound : (n : ℕ) (ps : List Process) → AllIn N (flat_map lists_in_process ps) → (u : Routine) → OneOf u (numbered process_routine n ps) → AllIn N (lists_in_body u.body)
    processes_bound n [] h u k = absurd k
    processes_bound n (p ∷ ps) h u (inl e) =
        subst (λ (w : Routine). AllIn N (lists_in_body w.body)) (sym e)
        (in_both N (lists_in_declared p.variables) (lists_in_body p.body) (in_both N (lists_in p.identity) _ (in_both N (lists_in_process p) _ h).0).1).1
    processes_bound n (p ∷ ps) h u (inr k) = processes_bound (suc n) ps (in_both N (lists_in_process p) _ h).1 u k

    main_bound : (m : Main) → AllIn N (lists_in_main m) → (u : Routine) → OneOf u (main_routines a m) → AllIn N (lists_in_body u.body)
    main_bound (alone b) h u (inl e) = subst (λ (w : Routine). AllIn N (lists_in_body w.body)) (sym e) h
    main_bound (alone b) h u (inr k) = absurd k
    main_bound (processes ps) h u k = processes_bound (first_process a) ps h u k

    pub routine_bound : AllIn N (bound_lists a) → (u : Routine) → OneOf u (routines a) → AllIn N (lists_in_body u.body)
    routine_bound g u k =
        let i = in_both N (lists_in_declared a.globals) _ g in
        let j = in_both N (flat_map (λ (c : tree.Definition). lists_in c.body) a.definitions) _ i.1 in
        let l = in_both N (flat_map (λ (c : Macro). lists_in_body c.body) a.macros) _ j.1 in
        let r = in_both N (flat_map lists_in_procedure a.procedures) (lists_in_main a.main) l.1 in
        by r.0 r.1 (one_either u (procedure_routines a) (main_routines a a.main) k)
      where
        by : AllIn N (flat_map lists_in_procedure a.procedures) → AllIn N (lists_in_main a.main) → OneOf u (procedure_routines a) ⊎ OneOf u (main_routines a a.main) → AllIn N (lists_in_body u.body)
        by r m (inl c) = procedures_bound (first_procedure a) a.procedures r u c
        by r m (inr c) = main_bound a.main m u c

-- ---- up to the next label

mutual
  one_until : (N : Word → Type 0) (st : Statement) → ReadsOneAlways N st → ReadsOne N st
  one_until N (branch e a b) h = (h.0, reads_until N a h.1, reads_until N b h.2)
  one_until N (either bs) h = some_until N bs h
  one_until N (with bs b) h = (h.0, reads_until N b h.1)
  one_until N (while e b) h = (h.0, reads_until N b h.1)
  one_until N (assign ms) h = h
  one_until N (await e) h = h
  one_until N (print e) h = h
  one_until N (assert e) h = h
  one_until N skip h = tt
  one_until N (goto l) h = tt
  one_until N (macro m ts) h = h
  one_until N (call p ts) h = h
  one_until N return h = tt

  pub reads_until : (N : Word → Type 0) (b : Statements) → ReadsAlways N b → ReadsBody N b
  reads_until N done h = tt
  reads_until N (then at st rest) h = (one_until N st h.0, reads_until N rest h.1)
  reads_until N (mark l k rest) h = tt

  some_until : (N : Word → Type 0) (bs : Branches) → ReadsSomeAlways N bs → ReadsBranches N bs
  some_until N no_branches h = tt
  some_until N (or b bs) h = (reads_until N b h.0, some_until N bs h.1)

-- ---- an accepted algorithm

module _ (o : Outside) (a : Algorithm) (h : IsAcceptedInFile o a) (values : Valuation) where
  abbrev pub Q : Program
  Q = program_in plain o a values

  abbrev pub ms : List Macro
  ms = reverse a.macros

  -- bound somewhere, and so no name of the translation
  abbrev pub Bound : Word → Type 0
  Bound x = (is_among (words (all_of (bound_lists a))) x ≡ true) × Unreserved o x

  pub bound_all : AllIn Bound (bound_lists a)
  bound_all = each_from Bound (words (all_of (bound_lists a))) (λ x k. (one_is_among (words (all_of (bound_lists a))) x k, one_each_of (Unreserved o) (words (all_of (bound_lists a))) (free o a h).bound x k))

  pub bound_kept : (x : Word) → is_among (words (all_of (bound_lists a))) x ≡ true → is_among (kept a) x ≡ true
  bound_kept x e =
      among_later (declared a.globals) _ x
      (among_later (flat_map (λ (d : tree.Definition). d.name.word ∷ words d.params) a.definitions) _ x
      (among_later (flat_map (λ (d : Macro). words d.params) a.macros) (words (all_of (bound_lists a))) x e))

  -- a bound name is a global or no variable of the translation
  pub bound_common : (x : Word) → Bound x → Common Q (extra_of a) x
  bound_common x b = by (declares a.globals x) refl
    where
      not_ours : is_own x ≡ false
      not_ours = not_own o x b.1

      no_variable : declares a.globals x ≡ false → is_among (vars Q) x ≡ false
      no_variable e =
          none_among (vars Q) x
          (vars_each Q (λ y. bytes_eq y x ≡ false)
          (each_from (λ y. bytes_eq y x ≡ false) (declared a.globals) (λ y k. false_among (bytes_eq y x) (λ q. never (sym (one_is_among (declared a.globals) y k) ∙ ap (declares a.globals) ((bytes_eq-Decides y x).0 q) ∙ e))))
          (own_differs pc x refl not_ours) (own_differs stack x refl not_ours)
          (λ u k y m. turned x (written Q u y) (kept_differs o a h values u y k m x (bound_kept x b.0))))

      by : (c : Bool) → declares a.globals x ≡ c → (c || not (is_among (vars Q) x || is_among (titles (extra_of a)) x)) ≡ true
      by true e = refl
      by false e = (λ i. not (no_variable e i || false_among (is_among (titles (extra_of a)) x) (λ q. never (sym (extra_own a.main x q) ∙ not_ours)) i))

  module _ (u : Routine) (k : OneOf u (routines a)) where
    pub once : BoundOnce o a u
    once = routine_once o a (rules_of_names a o h.accepted.names).2 u k

    pub used : in_body (macro_offences ms a.procedures) a.procedures u.body (seeing_variables (declared (locals u)) (sight_inside a o)) ≡ []
    used = routine_used o a (rules_of_names a o h.accepted.names).0 u k

    calls_all : Calls (FineCall ms) u.body
    calls_all =
        nothing_captured o.extended a.procedures (standing_inside a o) ms (macros_sound o a h) u.body (seeing_variables (declared (locals u)) (sight_inside a o)) once.standings used once.none
        (λ y n. kept_of o a once.standings y (moved y (seen_in_scope o a (declared (locals u)) y n)))
      where
        moved : (y : Word) → InScope o a (naming (declared (locals u)) (standing_inside a o)) y → InScope o a once.standings y
        moved y (inl e) = inl (once.scope y ∙ e)
        moved y (inr e) = inr e

    -- ---- what is bound

    no_local : (r : Standings) → More o.extended a.procedures (macro_rebinds o.extended a.procedures ms) once.standings r → (x : Word) → Bound x → Free o.extended a.procedures r x → declares (locals u) x ≡ false
    no_local r m x b f = false_among (declares (locals u) x) (λ q. never (sym (seen_again q) ∙ f))
      where
        seen_again : declares (locals u) x ≡ true → (in_scope r x && may_rebind o.extended x) ≡ true
        seen_again q = (λ i. m x (once.scope x ∙ in_named (declared (locals u)) (standing_inside a o) x q) i && ap not b.1 i)

    pub bound_apart : (r : Standings) → More o.extended a.procedures (macro_rebinds o.extended a.procedures ms) once.standings r → (x : Word) → Bound x → Free o.extended a.procedures r x → Apart (renames Q u) x
    bound_apart r m x b f = record {
      left = λ at. ap (λ c. cond c (Some (node (name (written Q u x)) at no_trees)) None) (no_local r m x b f);
      unread = λ y at. unread y at (declares (locals u) y) refl;
    }
      where
        unread : (y : Word) (at : Place) (c : Bool) → declares (locals u) y ≡ c → NotFreeIn x (cond c (Some (node (name (written Q u y)) at no_trees)) None)
        unread y at true e = (kept_differs o a h values u y k (among_one (declared (locals u)) y e) x (bound_kept x b.0), tt)
        unread y at false e = tt

    -- ---- what is read

    pub seen_all : Sees (seeing_variables (declared (locals u)) (sight_inside a o)) (Seen Q (extra_of a) u)
    seen_all =
        sees_map (knowing variable) (Seen Q (extra_of a) u) (declared (locals u)) (sight_inside a o)
        (λ x m n. or_left (declares (locals u) x) (common Q (extra_of a) x) (one_is_among (declared (locals u)) x m))
        (λ y n. or_right (declares (locals u) y) (common Q (extra_of a) y) (sees_inside o (Common Q (extra_of a)) (used_outside o a h values) a (global_common o a h values) (defined_common o a h values) y n))

    bound_seen : (x : Word) → Bound x → Seen Q (extra_of a) u x
    bound_seen x b = or_right (declares (locals u) x) (common Q (extra_of a) x) (bound_common x b)

    seen_bound : AllIn (Seen Q (extra_of a) u) (bound_lists a)
    seen_bound = each_to Bound (Seen Q (extra_of a) u) bound_seen (words (all_of (bound_lists a))) bound_all

    used_all : UsedIn ms a.procedures (Seen Q (extra_of a) u) u.body
    used_all =
        (seeing_variables (declared (locals u)) (sight_inside a o), used, seen_all, withs_in (Seen Q (extra_of a) u) u.body (routine_bound o a (Seen Q (extra_of a) u) seen_bound u k))

    -- ---- from a label on

    pub names_given : (d : Stand) → at_label u d.label ≡ Some d.begins → NamesGiven Q (extra_of a) (record d { routine = u })
    names_given d e =
        let items = d.begins.items in
        let C = macro_rebinds o.extended a.procedures ms in
        let again = from_label (NoneAgain o.extended a.procedures C once.standings) _ _ (again_pass o.extended a.procedures C once.standings) d.label unlabelled u.body u.exit d.begins (once.standings, once.none, (λ y q. q)) e in
        let all = from_label (λ b. AllIn Bound (lists_in_body b)) _ _ (bound_pass Bound) d.label unlabelled u.body u.exit d.begins (routine_bound o a Bound bound_all u k) e in
        let reads = from_label (UsedIn ms a.procedures (Seen Q (extra_of a) u)) _ _ (used_pass ms a.procedures (Seen Q (extra_of a) u)) d.label unlabelled u.body u.exit d.begins used_all e in
        record {
          calls = from_label (Calls (FineCall ms)) _ _ (calls_pass (FineCall ms)) d.label unlabelled u.body u.exit d.begins calls_all e;
          clean =
              uncaptured plain (renames Q u) (expanded ms items)
              (throughout_weaker _ _ _ _
              (λ m at f. each_two Bound (Free o.extended a.procedures again.0) (Apart (renames Q u)) (bound_apart again.0 again.2) (binders m) f.0 f.1) (λ x f. bound_apart again.0 again.2 x f.0 f.1) (expanded ms items)
              (throughout_both (BindsAll Bound) (BindsFree o.extended a.procedures again.0) Bound (Free o.extended a.procedures again.0) (expanded ms items)
              (body_bound Bound ms (macros_bound o a h Bound bound_all) items all) (written_bare o.extended a.procedures ms items again.0 again.1)));
          reads =
              reads_until (Seen Q (extra_of a) u) (expanded ms items)
              (body_reads a.procedures ms (calls_read a.procedures ms) (Seen Q (extra_of a) u) (macros_in (Seen Q (extra_of a) u) ms (macros_bound o a h (Seen Q (extra_of a) u) seen_bound)) items reads.0 reads.3 reads.2 reads.1);
        }

-- from each label on
pub names_given_law : NamesGivenLaw IsAcceptedInFile
names_given_law o g h values v d stance =
    names_given o g h values d.routine (runs_routine (program_in plain o g values) v d.routine stance.actor stance.routine) d stance.label
