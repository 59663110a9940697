-- The jumps, calls and returns of each step of an accepted algorithm can be written out.
use Rattle.std.proofs.Common.{◌≡◌, ℕ, suc, List, [], ◌∷◌, ◌++◌, map, reverse, Bool, true, false, ◌||◌, ◌&&◌, not, cond, bytes_eq, codes, Option, Some, None, inl, inr, refl, sym, ap, subst, ◌∙◌}
use Rattle.std.specs.List.{flat_map}
use Rattle.std.proofs.lemmas.Bool.{and_from}
use Rattle.std.proofs.lemmas.Slice.Eq.{bytes_eq-Decides}
use Rattle.tla_token.specs.declared.place.Place.{Place}
use Rattle.tla_token.specs.Signs.{is_among}
use Rattle.tla_tree.specs.Tree.{Word, name, Tree, node, Trees, no_trees, Each, Every, binders, grafts}
use Rattle.tla_tree.specs.laws.Writable.{IsIdentifier, IsWritable, AreWritable}
use Rattle.tla_value.specs.Definitions.{Valuation}
use Rattle.tla_value.specs.Grafts.{owned, own_part}
use Rattle.tla_value.specs.Outside.{Outside, found}
use Rattle.tla_value.specs.Stops.{plain}
use Rattle.tla_value.specs.laws.Grafting.{In, Apart, ApartForm, NotFreeIn}
use Rattle.tla_value.proofs.Facts.{each_weaker}
use Rattle.module_tree.specs.Formulas.{self}
use Rattle.pcal_tree.specs.Algorithm.{Name, Definition, Statements, done, then, await, Start, unset, equals, among, Declaration, declares, Macro, Procedure, Routine, locals, procedure_routine, numbered, first_procedure, procedure_routines, main_routines, routines, Algorithm}
use Rattle.pcal_tree.specs.BoundNames.{bound_lists, lists_in, lists_in_start, lists_in_declared, lists_in_body, lists_in_procedure, lists_in_main}
use Rattle.pcal_tree.specs.Calls.{defaultInitValue, routine_named, rules_without_macros}
use Rattle.pcal_tree.specs.Expand.{graft_all, expanded, written_out}
use Rattle.pcal_tree.specs.NameUses.{Sight, use_of, seeing_variables}
use Rattle.pcal_tree.specs.OffencesNames.{in_declared, in_definitions, in_procedure, in_start, in_whole, macro_offences, sight_outside, sight_inside, use_offences_of}
use Rattle.pcal_tree.specs.OffencesRebind.{in_scope, standing_inside, standing_outside, naming, tree_rebinds, any_name, start_rebinds, starts_rebind, locals_rebind, procedure_rebinds, definitions_rebind, texts_rebind, macro_rebinds, rebound_all, rebind_offences_of}
use Rattle.pcal_tree.specs.OffencesNames.{names_of}
use Rattle.pcal_tree.specs.Outside.{unit_names}
use Rattle.pcal_tree.specs.Placeless.{no_span}
use Rattle.pcal_tree.specs.Processes.{OneOf, IsActor}
use Rattle.pcal_tree.specs.Program.{Program, Actor, written}
use Rattle.pcal_tree.specs.Run.{Partner, unlabelled}
use Rattle.pcal_tree.specs.Step.{Stand, routines_of}
use Rattle.pcal_tree.specs.StepStart.{at_label}
use Rattle.pcal_tree.specs.Variables.{declared, vars, pc, stack}
use Rattle.pcal_tree.specs.laws.Expansion.{Throughout, Clean}
use Rattle.pcal_tree.proofs.CallsFine.{Usable, tree_seen, throughout_both}
use Rattle.pcal_tree.proofs.ClearLabels.{both_none}
use Rattle.pcal_tree.proofs.NamesSeen.{HasFree, PutsIn}
use Rattle.pcal_tree.proofs.NothingCaptured.{Has, pub_keeps, Free, BindsFree, written_bare}
use Rattle.pcal_tree.proofs.OneStand.{runs_routine}
use Rattle.pcal_tree.proofs.PlainMacros.{IsPlain, plain as plain_macro}
use Rattle.pcal_tree.proofs.RebindNames.{scope_of_both}
use Rattle.pcal_tree.proofs.TroubleLaws.{one_left, one_right}
use Rattle.pcal_tree.proofs.Uncaptured.{throughout_weaker, uncaptured}
use Rattle.action_builder.specs.Jumps.{written_jumps}
use Rattle.action_builder.specs.LabelActions.{no_jump_places, initial_tree, written_initials}
use Rattle.action_builder.specs.OwnVariables.{own_variables, is_own_variable}
use Rattle.action_builder.specs.Settled.{settled}
use Rattle.action_builder.specs.Written.{old_stack}
use Rattle.action_builder.specs.WrittenNames.{renames}
use Rattle.action_builder.specs.laws.Jumps.{fitting, all_lack}
use Rattle.action_builder.specs.laws.LabelSteps.{IsPrepared}
use Rattle.action_builder.specs.laws.Scopes.{Inner, own_scope}
use Rattle.action_builder.specs.laws.Settling.{Tidy, DoesAsRules}
use Rattle.action_builder.specs.laws.StepsOfLabels.{step_of}
use Rattle.action_builder.specs.laws.WrittenScope.{titles, Seen, NamesApart, written_scope}
use Rattle.action_builder.proofs.FitTrees.{grafts_fit, writable_all_fit}
use Rattle.action_builder.proofs.RoutinesStand.{StartFits, StartsFit, routines_stand, jumps_alone}
use Rattle.action_builder.proofs.Rules.{rules_do_pairs}
use Rattle.translation.specs.laws.AcceptedAlgorithm.{IsAcceptedInFile}
use Rattle.translation.specs.laws.AcceptedLaws.{extra_of, callable_of, callable_for, PreparedLaw}
use Rattle.translation.specs.laws.WritableAlgorithm.{IsWritableStart, is_procedure, is_variable}
use Rattle.translation.proofs.AcceptedNames.{each_none}
use Rattle.translation.proofs.BoundOf.{AllIn, BindsAll, in_both, in_flat, tree_bound, body_bound, withs_in}
use Rattle.translation.proofs.BoundSettled.{all_settled, jumps_bind}
use Rattle.translation.proofs.CalledProcedures.{one_declared}
use Rattle.translation.proofs.EndingJumps.{IsStill, macros_still, jumps_end, each_one}
use Rattle.translation.proofs.FramesAccepted.{P, f, Unbound, named_free, variable_unbound, scope_unbound, reserved_unbound, is_bound, old_bound, old_not_own, pc_among, pc_path, frames_stand, unset_fits}
use Rattle.translation.proofs.FromLabels.{from_label, bound_pass, More, NoneAgain, again_pass, UsedIn, used_pass}
use Rattle.translation.proofs.KnownRoutines.{reversed}
use Rattle.translation.proofs.MacrosSound.{macros_bound, in_rest, in_named, InScope, seen_in_scope}
use Rattle.translation.proofs.NamedBodies.{VariablesNamed, renames_put, among_one}
use Rattle.translation.proofs.NamesApart.{writable, kept_differs, own_differs, false_among, never, names_apart_law}
use Rattle.translation.proofs.NamesGiven.{Bound, bound_all, bound_kept, bound_common, once, used, seen_all, bound_apart, routine_bound}
use Rattle.translation.proofs.NamesOfRules.{not_own, turned, rules_of_names}
use Rattle.translation.proofs.PairsApart.{pairs_law}
use Rattle.translation.proofs.ProcedureStarts.{IsSingle, AllSingle, accepted_single}
use Rattle.translation.proofs.RoutinesNamed.{among_before, variables_named}
use Rattle.translation.proofs.TidySteps.{CallsFit, Called, all_fit, all_tidy, Ends, ends_pass, Written, written_pass, Placed, placed_pass, routine_placed, called_known, as_many_of, no_old, fit_all_lack, count_grafts}
use Rattle.translation.proofs.VariableNames.{each_to, none_among, own_each, stack_each, local_among, each_two}
use Rattle.pcal_tree.proofs.GraftsRead.{free_put}
use Rattle.pcal_tree.proofs.StepVariables.{named_one}
use Rattle.tla_value.specs.laws.FreeNames.{Any}

-- ---- small facts

each_unit : (xs : List Word) → Each (λ x. Unit {0}) xs
each_unit [] = tt
each_unit (x ∷ xs) = (tt, each_unit xs)

pub one_single : (ds : List Declaration) → AllSingle ds → (d : Declaration) → OneOf d ds → IsSingle d.start
one_single [] h d k = absurd k
one_single (e ∷ ds) h d (inl q) = subst (λ (c : Declaration). IsSingle c.start) (sym q) h.0
one_single (e ∷ ds) h d (inr k) = one_single ds h.1 d k

-- an expression as the whole of a body
abbrev pub whole : Tree → Statements
whole e = then no_span (await e) done

-- ---- a procedure's declarations

module _ (o : Outside) (a : Algorithm) where
  procedures_used : (n : ℕ) (ps : List Procedure) → flat_map (in_procedure (macro_offences (reverse a.macros) a.procedures) a.procedures (sight_inside a o)) ps ≡ [] → (p : Routine) → OneOf p (numbered procedure_routine n ps)
      → in_declared (locals p) (seeing_variables (declared (locals p)) (sight_inside a o)) ≡ []
  procedures_used n [] q u k = absurd k
  procedures_used n (p ∷ ps) q u (inl e) =
      subst (λ (r : Routine). in_declared (locals r) (seeing_variables (declared (locals r)) (sight_inside a o)) ≡ []) (sym e)
      (both_none (in_declared (p.params ++ p.variables) (seeing_variables (declared (p.params ++ p.variables)) (sight_inside a o))) _ (both_none (in_procedure (macro_offences (reverse a.macros) a.procedures) a.procedures (sight_inside a o) p) _ q).0).0
  procedures_used n (p ∷ ps) q u (inr k) = procedures_used (suc n) ps (both_none (in_procedure (macro_offences (reverse a.macros) a.procedures) a.procedures (sight_inside a o) p) _ q).1 u k

  declared_used : use_offences_of a o ≡ [] → (p : Routine) → OneOf p (procedure_routines a) → in_declared (locals p) (seeing_variables (declared (locals p)) (sight_inside a o)) ≡ []
  declared_used q p k =
      let d = (both_none (in_declared a.globals (sight_inside a o)) _ q).1 in
      let e = (both_none (in_definitions a.definitions (seeing_variables (declared a.globals) (sight_outside o))) _ d).1 in
      procedures_used (first_procedure a) a.procedures (both_none (flat_map (in_procedure (macro_offences (reverse a.macros) a.procedures) a.procedures (sight_inside a o)) a.procedures) _ e).0 p k

  procedures_again : (n : ℕ) (ps : List Procedure) → flat_map (procedure_rebinds o.extended a.procedures (macro_rebinds o.extended a.procedures (reverse a.macros)) (standing_inside a o)) ps ≡ [] → (p : Routine) → OneOf p (numbered procedure_routine n ps)
      → starts_rebind o.extended any_name (locals p) (naming (declared (locals p)) (standing_inside a o)) ≡ []
  procedures_again n [] q u k = absurd k
  procedures_again n (p ∷ ps) q u (inl e) =
      let r = both_none (procedure_rebinds o.extended a.procedures (macro_rebinds o.extended a.procedures (reverse a.macros)) (standing_inside a o) p) _ q in
      subst (λ (w : Routine). starts_rebind o.extended any_name (locals w) (naming (declared (locals w)) (standing_inside a o)) ≡ []) (sym e)
      (both_none (rebound_all o.extended (standing_inside a o) (names_of (p.params ++ p.variables))) _ (both_none (locals_rebind o.extended (p.params ++ p.variables) (standing_inside a o)) _ r.0).0).1
  procedures_again n (p ∷ ps) q u (inr k) = procedures_again (suc n) ps (both_none (procedure_rebinds o.extended a.procedures (macro_rebinds o.extended a.procedures (reverse a.macros)) (standing_inside a o) p) _ q).1 u k

  pub declared_again : rebind_offences_of a o ≡ [] → (p : Routine) → OneOf p (procedure_routines a) → starts_rebind o.extended any_name (locals p) (naming (declared (locals p)) (standing_inside a o)) ≡ []
  declared_again q p k =
      let i = both_none (starts_rebind o.extended any_name a.globals (standing_inside a o)) _ q in
      let j = both_none (definitions_rebind o.extended a.definitions (standing_outside a o)) _ i.1 in
      let l = both_none (texts_rebind o.extended a.procedures (macro_rebinds o.extended a.procedures) (standing_inside a o) (reverse a.macros)) _ j.1 in
      procedures_again (first_procedure a) a.procedures (both_none (flat_map (procedure_rebinds o.extended a.procedures (macro_rebinds o.extended a.procedures (reverse a.macros)) (standing_inside a o)) a.procedures) _ l.1).0 p k

  procedures_bound : (N : Word → Type 0) (n : ℕ) (ps : List Procedure) → AllIn N (flat_map lists_in_procedure ps) → (p : Routine) → OneOf p (numbered procedure_routine n ps) → AllIn N (lists_in_declared (locals p))
  procedures_bound N n [] h u k = absurd k
  procedures_bound N n (p ∷ ps) h u (inl e) =
      subst (λ (w : Routine). AllIn N (lists_in_declared (locals w))) (sym e) (in_both N (lists_in_declared (p.params ++ p.variables)) (lists_in_body p.body) (in_both N (lists_in_procedure p) _ h).0).0
  procedures_bound N n (p ∷ ps) h u (inr k) = procedures_bound N (suc n) ps (in_both N (lists_in_procedure p) _ h).1 u k

  pub declared_bound : (N : Word → Type 0) → AllIn N (bound_lists a) → (p : Routine) → OneOf p (procedure_routines a) → AllIn N (lists_in_declared (locals p))
  declared_bound N g p k =
      let i = in_both N (lists_in_declared a.globals) _ g in
      let j = in_both N (flat_map (λ (c : Definition). lists_in c.body) a.definitions) _ i.1 in
      let l = in_both N (flat_map (λ (c : Macro). lists_in_body c.body) a.macros) _ j.1 in
      procedures_bound N (first_procedure a) a.procedures (in_both N (flat_map lists_in_procedure a.procedures) (lists_in_main a.main) l.1).0 p k

-- ---- an accepted algorithm

module _ (o : Outside) (a : Algorithm) (h : IsAcceptedInFile o a) (values : Valuation) where
  abbrev A : Program
  A = P o a h values

  abbrev ms : List Macro
  ms = reverse a.macros

  -- ---- bound names are neither self nor own variables

  abbrev Aside : Word → Type 0
  Aside x = (bytes_eq x self ≡ false) × (is_own_variable A x ≡ false)

  bound_aside : (x : Word) → Bound o a h values x → Aside x
  bound_aside x b =
      let n = not_own o x b.1 in (
        turned self x (own_differs self x refl n),
        none_among (own_variables A) x
            (own_each A (λ y. bytes_eq y x ≡ false) (own_differs pc x refl n) (stack_each A (λ y. bytes_eq y x ≡ false) (procedure_routines a) (own_differs stack x refl n))
            (λ u k s y m. turned x (written A u y) (kept_differs o a h values u y k m x (bound_kept o a h values x b.0)))),
      )

  all_aside : AllIn Aside (bound_lists a)
  all_aside = each_to (Bound o a h values) Aside bound_aside _ (bound_all o a h values)

  aside_apart : (x : Word) → Aside x → Apart (owned self (is_own_variable A)) x
  aside_apart x n = record { left = λ at. ap (λ c. cond c (Some (own_part self x at)) None) n.1; unread = λ y at. unread y at (is_own_variable A y) refl }
    where
      unread : (y : Word) (at : Place) (c : Bool) → is_own_variable A y ≡ c → NotFreeIn x (cond c (Some (own_part self y at)) None)
      unread y at true q = (tt, ((false_among (bytes_eq x y) (λ e. never (sym q ∙ ap (is_own_variable A) (sym ((bytes_eq-Decides x y).0 e)) ∙ n.1)), tt), ((n.0, tt), tt)))
      unread y at false q = tt

  renames_has : (N : Word → Type 0) (u : Routine) (x : Word) (at : Place) → Has (BindsAll N) N (renames A u) (renames A u x at)
  renames_has N u x at = by (declares (locals u) x)
    where
      by : (c : Bool) → Has (BindsAll N) N (renames A u) (cond c (Some (node (name (written A u x)) at no_trees)) None)
      by true = (tt, tt)
      by false = tt

  -- ---- initial values of procedures

  module _ (p : Routine) (k : OneOf p (procedure_routines a)) where
    there : OneOf p (routines a)
    there = one_left p (procedure_routines a) (main_routines a a.main) k

    start_aside : (d : Declaration) → OneOf d p.variables → Every (BindsAll Aside) (initial_tree A p d.start)
    start_aside d m = by d.start (in_flat Aside (λ (c : Declaration). lists_in_start c.start) (locals p) (declared_bound o a Aside all_aside p k) d (one_right d p.params p.variables m))
      where
        by : (s : Start) → AllIn Aside (lists_in_start s) → Every (BindsAll Aside) (initial_tree A p s)
        by unset b = (tt, tt)
        by (among e) b = (tt, tt)
        by (equals e) b = (pub_keeps (BindsAll Aside) Aside (renames A p) (λ m p q k. k) (renames_has Aside p) (whole e) (tree_bound Aside e b, tt)).0

    sight : Sight
    sight = seeing_variables (declared (locals p)) (sight_inside a o)

    puts : PutsIn (renames A p) (λ y. Usable (use_of sight y) × IsIdentifier y) (Unbound o a h values)
    unfolding sight
    puts = record { left = left; put = λ y at. put y at (declares (locals p) y) refl; operators = λ y u. u }
      where
        not_local : (y : Word) (at : Place) (c : Bool) → declares (locals p) y ≡ c → cond c (Some (node (name (written A p y)) at no_trees)) None ≡ None → c ≡ false
        not_local y at true e q = cc
        not_local y at false e q = refl

        left : (y : Word) (at : Place) → Usable (use_of sight y) × IsIdentifier y → renames A p y at ≡ None → Unbound o a h values y
        left y at n q = by (seen_in_scope o a (declared (locals p)) y n.0)
          where
            by : InScope o a (naming (declared (locals p)) (standing_inside a o)) y → Unbound o a h values y
            by (inl e) =
                scope_unbound o a h values y (no_old y n.1)
                (sym (scope_of_both (declared (locals p)) (standing_inside a o) y ∙ (λ i. not_local y at (declares (locals p) y) refl q i || in_scope (standing_inside a o) y)) ∙ e)
            by (inr e) = reserved_unbound o a h values y (no_old y n.1) e

        put : (y : Word) (at : Place) (c : Bool) → declares (locals p) y ≡ c → HasFree (Unbound o a h values) (cond c (Some (node (name (written A p y)) at no_trees)) None)
        put y at true e = (variable_unbound o a h values (written A p y) (local_among A p y there (among_one (declared (locals p)) y e)), tt)
        put y at false e = tt

    module _ (v : Actor) (actor : IsActor A v) (default : values (codes "defaultInitValue") ≡ Some defaultInitValue) where
      abbrev Fit : Start → Type 0
      Fit = StartFits values (found o.definitions) a A.naming (extra_of a) v (f o a h values) p

      equals_fits : (e : Tree) → IsWritable e → AllIn (Bound o a h values) (lists_in e) → in_whole e sight ≡ [] → tree_rebinds o.extended any_name e (naming (declared (locals p)) (standing_inside a o)) ≡ [] → Fit (equals e)
      unfolding sight
      equals_fits e w b i r =
          let s = naming (declared (locals p)) (standing_inside a o) in
          let more : More o.extended a.procedures (macro_rebinds o.extended a.procedures ms) (once o a h values p there).standings s = λ y q. sym ((once o a h values p there).scope y) ∙ q in (
            (uncaptured plain (renames A p) (whole e)
                (throughout_weaker (λ m at. BindsAll (Bound o a h values) m at × BindsFree o.extended a.procedures s m at) (ApartForm (renames A p)) (λ x. Bound o a h values x × Free o.extended a.procedures s x) (Apart (renames A p))
                (λ m at g. each_two (Bound o a h values) (Free o.extended a.procedures s) (Apart (renames A p)) (bound_apart o a h values p there s more) (binders m) g.0 g.1) (λ x g. bound_apart o a h values p there s more x g.0 g.1) (whole e)
                (throughout_both (BindsAll (Bound o a h values)) (BindsFree o.extended a.procedures s) (Bound o a h values) (Free o.extended a.procedures s) (whole e) (tree_bound (Bound o a h values) e b, tt)
                (written_bare o.extended a.procedures [] (whole e) s (λ j. r j ++ []))))).0,
            tree_seen e false sight (Seen A (extra_of a) p) (seen_all o a h values p there) i,
            free_put (renames A p) (λ y. Usable (use_of sight y) × IsIdentifier y) Any (Unbound o a h values) Any puts e
                (named_free (λ y. Usable (use_of sight y)) e w (tree_seen e false sight (λ y. Usable (use_of sight y)) (λ y n. n) i)),
          )

      start_fits : (s : Start) → IsSingle s → IsWritableStart s → AllIn (Bound o a h values) (lists_in_start s) → in_start s sight ≡ [] → start_rebinds o.extended any_name s (naming (declared (locals p)) (standing_inside a o)) ≡ [] → Fit s
      start_fits unset g w b i r = λ bs n z. unset_fits o a h values v actor default bs n z
      start_fits (equals e) g w b i r = equals_fits e w b i r
      start_fits (among e) g w b i r = absurd g

      starts_fit : (ds : List Declaration) → ((d : Declaration) → OneOf d ds → OneOf d p.variables) → StartsFit values (found o.definitions) a A.naming (extra_of a) v (f o a h values) p ds
      unfolding sight
      starts_fit [] g = tt
      starts_fit (d ∷ ds) g =
          let m = g d (inl refl) in
          let l = one_right d p.params p.variables m in
          let rules = rules_of_names a o h.accepted.names in (
            start_fits d.start (one_single p.variables (accepted_single o a h.accepted p k) d m) (one_declared (locals p) ((writable o a h).routines p there).locals d l).1
                (in_flat (Bound o a h values) (λ (c : Declaration). lists_in_start c.start) (locals p) (declared_bound o a (Bound o a h values) (bound_all o a h values) p k) d l)
                (each_none (λ (c : Declaration). in_start c.start (seeing_variables (declared (locals p)) (sight_inside a o))) (locals p) (declared_used o a rules.0 p k) d l)
                (each_none (λ (c : Declaration). start_rebinds o.extended any_name c.start (naming (declared (locals p)) (standing_inside a o))) (locals p) (declared_again o a rules.2 p k) d l),
            starts_fit ds (λ e n. g e (inr n)),
          )

  -- ---- a routine that a process runs

  module _ (v : Actor) (actor : IsActor A v) (default : values (codes "defaultInitValue") ≡ Some defaultInitValue) (u : Routine) (runs : OneOf u (routines_of A v)) where
    within : OneOf u (routines a)
    within = runs_routine A v u actor runs

    apart : (p : Routine) → OneOf p (routines_of A v) → NamesApart A (extra_of a) v p
    apart p k = names_apart_law o a h values v p actor k

    called : (x : Word) (p : Routine) → routine_named x (procedure_routines a) ≡ Some p → NamesApart A (extra_of a) v p × StartsFit values (found o.definitions) a A.naming (extra_of a) v (f o a h values) p p.variables
    called x p e = (let k = named_one x (procedure_routines a) p e in (apart p (inr k), starts_fit p k v actor default p.variables (λ d m. m)))

    does : (ws : List Routine) → procedure_routines a ≡ ws
        → DoesAsRules (rules_without_macros A v u) (written_jumps A u (written_initials A) no_jump_places) (Inner (f o a h values) (own_scope plain self (is_own_variable A) (written_scope A (extra_of a) v))) (In (f o a h values)) (callable_of A ws)
    does [] e =
        jumps_alone values (found o.definitions) a A.naming (extra_of a) v (f o a h values) u (apart u runs) (pc_among o a h values) (pc_path o a h values v actor) (variable_unbound o a h values pc (pc_among o a h values))
    does (w ∷ ws) e =
        let k = subst (OneOf w) (sym e) (inl refl) in
        rules_do_pairs A v u (written_initials A) no_jump_places (f o a h values) _ refl
        (routines_stand values (found o.definitions) a A.naming (extra_of a) v (f o a h values) (frames_stand o a h values v actor w k) u (apart u runs) called) (old_bound o a h values) (pairs_law o a h values v u actor runs)

    -- ---- calls

    abbrev Returns : Type 0
    Returns = (callable_for A).returns ≡ true

    some_return : (ws : List Routine) (p : Routine) → OneOf p ws → (callable_of A ws).returns ≡ true
    some_return [] p k = absurd k
    some_return (w ∷ ws) p k = refl

    named : VariablesNamed A u (λ x. declares a.globals x)
    named = (let n = variables_named o a (writable o a h) u within in record { identifiers = n.identifiers; named = n.named; apart = n.apart; new = n.new })

    calls_fit : (ws : List Routine) → procedure_routines a ≡ ws → (p : Name) (ts : Trees) (j : Partner) → Called (procedure_routines a) p ts → AreWritable ts → (callable_of A ws).calls p (grafts (renames A u) ts) j ≡ true
    calls_fit [] e p ts j c w = absurd (none (sym (ap (routine_named p.word) e) ∙ c.1))
      where
        none : ◌≡◌ {A = Option Routine} None (Some c.0) → ⊥
        none q = cc
    calls_fit (w' ∷ ws) e p ts j c w =
        let us = grafts (renames A u) ts in
        and_from (fitting A (routine_named p.word (procedure_routines a)) us) (all_lack old_stack us)
        ((λ i. fitting A (c.1 i) us) ∙ as_many_of A c.0 c.0.params us (c.2 ∙ sym (count_grafts (renames A u) ts)))
        (fit_all_lack us (grafts_fit IsIdentifier IsIdentifier (renames A u) (renames_put A u (λ x. declares a.globals x) named) ts (writable_all_fit IsIdentifier (λ x i. i) ts w)))

    -- ---- from a label on

    still : IsStill (written_out ms)
    still = macros_still ms (reversed IsPlain a.macros (each_one IsPlain a.macros (plain_macro a h.accepted.labels)))

    module _ (d : Stand) (label : at_label u d.label ≡ Some d.begins) where
      items : Statements
      items = d.begins.items

      again : NoneAgain o.extended a.procedures (macro_rebinds o.extended a.procedures ms) (once o a h values u within).standings items
      unfolding items
      again =
          from_label (NoneAgain o.extended a.procedures (macro_rebinds o.extended a.procedures ms) (once o a h values u within).standings) _ _ (again_pass o.extended a.procedures (macro_rebinds o.extended a.procedures ms) (once o a h values u within).standings)
          d.label unlabelled u.body u.exit d.begins ((once o a h values u within).standings, (once o a h values u within).none, (λ y q. q)) label

      all_in : (N : Word → Type 0) → AllIn N (bound_lists a) → AllIn N (lists_in_body items)
      unfolding items
      all_in N g = from_label (λ b. AllIn N (lists_in_body b)) _ _ (bound_pass N) d.label unlabelled u.body u.exit d.begins (routine_bound o a N g u within) label

      -- a `with` may bind what is bound and is not in scope around the body
      bound_now : (x : Word) → Bound o a h values x → Free o.extended a.procedures again.0 x → f o a h values x ≡ true
      bound_now x b g = is_bound o a h values x (ap not b.1) outside (no_variable (declares a.globals x) refl)
        where
          around : in_scope (standing_inside a o) x ≡ true → in_scope again.0 x ≡ true
          around q = again.2 x ((once o a h values u within).scope x ∙ in_rest (declared (locals u)) (standing_inside a o) x q)

          outside : in_scope (standing_inside a o) x ≡ false
          outside = false_among (in_scope (standing_inside a o) x) (λ q. never (sym (λ i. around q i && ap not b.1 i) ∙ g))

          global_inside : declares a.globals x ≡ true → in_scope (standing_inside a o) x ≡ true
          global_inside q =
              in_rest (map (λ (c : Definition). c.name.word) a.definitions) (standing_outside a o) x (in_named (declared a.globals ++ unit_names o) [] x (among_before (declared a.globals) (unit_names o) x q))

          no_variable : (c : Bool) → declares a.globals x ≡ c → is_among (vars A) x ≡ false
          no_variable true q = absurd (never (sym (global_inside q) ∙ outside))
          no_variable false q = not_either (is_among (vars A) x) (is_among (titles (extra_of a)) x) (sym (ap (λ c. c || not (is_among (vars A) x || is_among (titles (extra_of a)) x)) q) ∙ bound_common o a h values x b)
            where
              not_either : (c e : Bool) → not (c || e) ≡ true → c ≡ false
              not_either true e z = cc
              not_either false e z = refl

      all_bound : Throughout (BindsAll (Bound o a h values)) (In (f o a h values)) (expanded ms items)
      all_bound =
          throughout_weaker _ _ _ _ (λ m at g. g.0) (λ x g. bound_now x g.0 g.1) (expanded ms items)
          (throughout_both (BindsAll (Bound o a h values)) (BindsFree o.extended a.procedures again.0) (Bound o a h values) (Free o.extended a.procedures again.0) (expanded ms items)
          (body_bound (Bound o a h values) ms (macros_bound o a h (Bound o a h values) (bound_all o a h values)) items (all_in (Bound o a h values) (bound_all o a h values))) (written_bare o.extended a.procedures ms items again.0 again.1))

      fit : CallsFit (Called (procedure_routines a)) Returns (expanded ms items)
      unfolding items
      fit =
          let w = from_label (Placed Returns) _ _ (placed_pass Returns) d.label unlabelled u.body u.exit d.begins (routine_placed Returns a (λ p k. some_return (procedure_routines a) p k) h.accepted.labels u within) label in
          let s = from_label (UsedIn ms a.procedures (λ x. Unit {0})) _ _ (used_pass ms a.procedures (λ x. Unit {0})) d.label unlabelled u.body u.exit d.begins
          (seeing_variables (declared (locals u)) (sight_inside a o), used o a h values u within, (λ y n. tt), withs_in (λ x. Unit {0}) u.body (each_unit _)) label in
          all_fit (Called (procedure_routines a)) Returns (macro_offences ms a.procedures) a.procedures (written_out ms) still (λ at p ts q. called_known (first_procedure a) a.procedures at p ts q) w.0 w.1 s.0 items s.1 w.2

      tidy : Tidy (In (f o a h values)) (callable_for A) (graft_all (renames A u) (expanded ms items))
      unfolding items
      tidy =
          all_tidy (Called (procedure_routines a)) Returns (BindsAll (Bound o a h values)) (f o a h values) (is_variable a u) (is_procedure a) (renames A u) (callable_for A) (calls_fit (procedure_routines a) refl) (λ r. r) (expanded ms items)
          (from_label (Ends (written_out ms)) _ _ (ends_pass (written_out ms)) d.label unlabelled u.body u.exit d.begins (jumps_end a h.accepted.labels u within) label) all_bound fit
          (from_label (Written (written_out ms) (is_procedure a) (is_variable a u)) _ _ (written_pass (written_out ms) (is_procedure a) (is_variable a u)) d.label unlabelled u.body u.exit d.begins ((writable o a h).routines u within).body label)

      clean : Clean plain (owned self (is_own_variable A)) (settled (written_jumps A u (written_initials A) no_jump_places) d.label d.begins.exit (graft_all (renames A u) (expanded ms items)))
      clean =
          let W = written_jumps A u (written_initials A) no_jump_places in
          let ss = graft_all (renames A u) (expanded ms items) in
          uncaptured plain (owned self (is_own_variable A)) (settled W d.label d.begins.exit ss)
          (throughout_weaker _ _ _ _ (λ m at g. each_weaker Aside (Apart (owned self (is_own_variable A))) aside_apart (binders m) g) aside_apart (settled W d.label d.begins.exit ss)
          (all_settled Aside W
          (jumps_bind Aside A u (refl, old_not_own o a h values) (λ x p e. start_aside p (named_one x (procedure_routines a) p e))) d.label d.begins.exit ss
          (pub_keeps (BindsAll Aside) Aside (renames A u) (λ m p q k. k) (renames_has Aside u) (expanded ms items)
          (body_bound Aside ms (macros_bound o a h Aside all_aside) items (all_in Aside all_aside)))))

      pub prepared : IsPrepared (step_of A (extra_of a) v (record d { routine = u }) (f o a h values) (callable_for A))
      unfolding items
      prepared = record {
        free = λ x at p s. refl;
        does = does (procedure_routines a) refl;
        tidy = tidy;
        clean = clean;
      }

-- jumps, calls and returns can be written out
pub prepared_law : PreparedLaw IsAcceptedInFile
prepared_law o g h values default v d stance = prepared o g h values v stance.actor default d.routine stance.routine d stance.label
