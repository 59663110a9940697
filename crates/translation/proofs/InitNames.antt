-- The initial values of an accepted algorithm's routines: written names and identifiers are put in, and nothing is captured; and what they read is seen in the routine.
use Rattle.std.proofs.Common.{◌≡◌, ℕ, suc, List, [], ◌∷◌, ◌++◌, Bool, true, false, not, ◌&&◌, cond, bytes_eq, reverse, Some, None, ◌⊎◌, inl, inr, refl, sym, ◌∙◌, ap, subst}
use Rattle.std.specs.List.{flat_map, AllByRecursion}
use Rattle.std.proofs.lemmas.List.{append-nil}
use Rattle.tla_token.specs.declared.rule.Refusal.{Refusal}
use Rattle.std.proofs.lemmas.Bool.{or_left, or_right}
use Rattle.std.proofs.lemmas.Slice.Eq.{bytes_eq-Decides}
use Rattle.tla_token.specs.Places.{nowhere}
use Rattle.tla_token.specs.declared.place.Place.{Place}
use Rattle.tla_token.specs.Signs.{is_among}
use Rattle.tla_tree.specs.Tree.{Word, words, binders, name, Tree, node, no_trees, Graft, graft, Every}
use Rattle.tla_value.specs.Stops.{plain}
use Rattle.tla_value.specs.Definitions.{Valuation, Definition}
use Rattle.tla_value.specs.Grafts.{owned, own_part}
use Rattle.tla_value.specs.Outside.{Outside}
use Rattle.tla_value.specs.laws.FreeNames.{Any, FreeNames, IsOther}
use Rattle.tla_value.specs.laws.Grafting.{Apart, NotFreeIn, BindsClear}
use Rattle.tla_value.proofs.Facts.{each_weaker, every_weaker}
use Rattle.tla_value.proofs.Graft.{apart_clear}
use Rattle.module_tree.specs.Formulas.{self}
use Rattle.pcal_tree.specs.Algorithm as tree
use Rattle.pcal_tree.specs.Algorithm.{Declaration, Start, declares, await, Statements, done, then, Macro, Procedure, Process, Main, alone, processes, Routine, locals, procedure_routine, process_routine, alone_routine, numbered, first_procedure, first_process, procedure_routines, main_routines, routines, Algorithm}
use Rattle.pcal_tree.specs.BoundNames.{all_of, lists_in, lists_in_start, lists_in_body, lists_in_declared, lists_in_procedure, lists_in_process, lists_in_main, bound_lists}
use Rattle.pcal_tree.specs.Names.{kept}
use Rattle.pcal_tree.specs.NameUses.{knowing, variable, Sight, seeing_variables}
use Rattle.pcal_tree.specs.OffencesNames.{names_of, in_whole, in_start, in_declared, in_definitions, in_procedure, in_process, in_main, macro_offences, sight_outside, sight_inside, use_offences_of}
use Rattle.pcal_tree.specs.OffencesRebind.{Standings, naming, in_scope, may_rebind, whole_rebinds, start_rebinds, starts_rebind, any_name, macro_rebinds, texts_rebind, definitions_rebind, locals_rebind, rebound_all, procedure_rebinds, process_rebinds, main_rebinds, standing_outside, standing_inside, rebind_offences_of}
use Rattle.pcal_tree.specs.Processes.{OneOf}
use Rattle.pcal_tree.specs.Program.{Program, written}
use Rattle.pcal_tree.specs.Programs.{program_in}
use Rattle.pcal_tree.specs.Variables.{declared, pc, stack}
use Rattle.pcal_tree.proofs.CallsFine.{Sees, tree_seen, free_weaker, throughout_both}
use Rattle.pcal_tree.proofs.ClearLabels.{both_none}
use Rattle.pcal_tree.proofs.NothingCaptured.{Has, Free, BindsFree, pub_keeps, written_bare}
use Rattle.pcal_tree.proofs.RoutineNames.{one_either}
use Rattle.action_builder.specs.InitialFormulas.{written_in}
use Rattle.action_builder.specs.OwnVariables.{own_variables, is_own_variable}
use Rattle.action_builder.specs.SingleProcess.{in_place_of}
use Rattle.action_builder.specs.WrittenNames.{renames, renamed}
use Rattle.action_builder.specs.laws.WrittenScope.{common, Common, Seen}
use Rattle.action_builder.proofs.WrittenStarts.{IsNamed}
use Rattle.translation.specs.laws.AcceptedAlgorithm.{IsAcceptedInFile}
use Rattle.translation.specs.laws.AcceptedLaws.{extra_of}
use Rattle.translation.proofs.BoundOf.{AllIn, BindsAll, in_both, body_bound}
use Rattle.translation.proofs.MacrosSound.{in_named, in_rest, InScope, seen_in_scope}
use Rattle.translation.proofs.NamedBodies.{among_one}
use Rattle.translation.proofs.NamesApart.{free, kept_differs, used_outside, global_common, defined_common, own_differs, false_among, never}
use Rattle.translation.proofs.NamesInSight.{sees_map, sees_inside}
use Rattle.translation.proofs.NamesOfRules.{Unreserved, not_own, turned, rules_of_names}
use Rattle.translation.proofs.RoutinesNamed.{one_each_of, among_later}
use Rattle.translation.proofs.VariableNames.{each_from, none_among, one_is_among, own_each, stack_each, each_two}

-- an expression as a body that reads it
abbrev body_of : Tree → Statements
body_of e = then (record { first = nowhere; last = nowhere }) (await e) done

-- trees put in for names bind nothing
grafted_binds : (B : Word → Type 0) (g : Graft) → ((x : Word) (at : Place) → Has (BindsAll B) B g (g x at)) → (e : Tree) → Every (BindsAll B) e → Every (BindsAll B) (graft g e)
grafted_binds B g h e k = (pub_keeps (BindsAll B) B g (λ m p q f. f) h (body_of e) (k, tt)).0

module _ (o : Outside) (a : Algorithm) where
  -- bound somewhere, and so no name of the translation
  abbrev pub Bound : Word → Type 0
  Bound x = (is_among (words (all_of (bound_lists a))) x ≡ true) × Unreserved o x

  abbrev pub sight_of : Routine → Sight
  sight_of u = seeing_variables (declared (locals u)) (sight_inside a o)

  abbrev pub standings_of : Routine → Standings
  standings_of u = naming (declared (locals u)) (standing_inside a o)

  -- an initial value breaks no rule on names
  pub record StartFine (u : Routine) (d : Declaration) : Type 0 where
    pub used : in_start d.start (sight_of u) ≡ []
    pub once : start_rebinds o.extended any_name d.start (standings_of u) ≡ []
    pub bound : AllIn Bound (lists_in_start d.start)

  abbrev pub StartsFine : Routine → Type 0
  StartsFine u = AllByRecursion (StartFine u) (locals u)

  starts_fine : (u : Routine) (ds : List Declaration) → in_declared ds (sight_of u) ≡ [] → starts_rebind o.extended any_name ds (standings_of u) ≡ [] → AllIn Bound (lists_in_declared ds) → AllByRecursion (StartFine u) ds
  starts_fine u [] i j k = tt
  starts_fine u (d ∷ ds) i j k =
      let l = both_none (in_start d.start (sight_of u)) (in_declared ds (sight_of u)) i in
      let m = both_none (start_rebinds o.extended any_name d.start (standings_of u)) (starts_rebind o.extended any_name ds (standings_of u)) j in
      let n = in_both Bound (lists_in_start d.start) (lists_in_declared ds) k in
      (record { used = l.0; once = m.0; bound = n.0 }, starts_fine u ds l.1 m.1 n.1)

  abbrev R : Procedure → List Refusal
  R = procedure_rebinds o.extended a.procedures (macro_rebinds o.extended a.procedures (reverse a.macros)) (standing_inside a o)

  abbrev S : Process → List Refusal
  S = process_rebinds o.extended a.procedures (macro_rebinds o.extended a.procedures (reverse a.macros)) (standing_inside a o)

  abbrev V : Procedure → List Refusal
  V = in_procedure (macro_offences (reverse a.macros) a.procedures) a.procedures (sight_inside a o)

  abbrev W : Process → List Refusal
  W = in_process (macro_offences (reverse a.macros) a.procedures) a.procedures (sight_inside a o)

  procedures_fine : (n : ℕ) (ps : List Procedure) → flat_map V ps ≡ [] → flat_map R ps ≡ [] → AllIn Bound (flat_map lists_in_procedure ps) → (u : Routine) → OneOf u (numbered procedure_routine n ps) → StartsFine u
  procedures_fine n [] i j k u m = absurd m
  procedures_fine n (p ∷ ps) i j k u (inl e) =
      let w = procedure_routine n p in
      let x = both_none (in_declared (locals w) (sight_of w)) _ (both_none (V p) _ i).0 in
      let y = both_none (locals_rebind o.extended (locals w) (standing_inside a o)) _ (both_none (R p) _ j).0 in
      let z = both_none (rebound_all o.extended (standing_inside a o) (names_of (locals w))) _ y.0 in
      subst StartsFine (sym e) (starts_fine w (locals w) x.0 z.1 (in_both Bound (lists_in_declared (locals w)) (lists_in_body p.body) (in_both Bound (lists_in_procedure p) _ k).0).0)
  procedures_fine n (p ∷ ps) i j k u (inr m) = procedures_fine (suc n) ps (both_none (V p) _ i).1 (both_none (R p) _ j).1 (in_both Bound (lists_in_procedure p) _ k).1 u m

  processes_fine : (n : ℕ) (ps : List Process) → flat_map W ps ≡ [] → flat_map S ps ≡ [] → AllIn Bound (flat_map lists_in_process ps) → (u : Routine) → OneOf u (numbered process_routine n ps) → StartsFine u
  processes_fine n [] i j k u m = absurd m
  processes_fine n (p ∷ ps) i j k u (inl e) =
      let w = process_routine n p in
      let x = both_none (in_whole p.identity (sight_inside a o)) _ (both_none (W p) _ i).0 in
      let y = both_none (whole_rebinds o.extended p.identity (standing_inside a o)) _ (both_none (S p) _ j).0 in
      let z = both_none (locals_rebind o.extended (locals w) (standing_inside a o)) _ y.1 in
      subst StartsFine (sym e)
      (starts_fine w (locals w) (both_none (in_declared (locals w) (sight_of w)) _ x.1).0 (both_none (rebound_all o.extended (standing_inside a o) (names_of (locals w))) _ z.0).1
      (in_both Bound (lists_in_declared (locals w)) (lists_in_body p.body) (in_both Bound (lists_in p.identity) _ (in_both Bound (lists_in_process p) _ k).0).1).0)
  processes_fine n (p ∷ ps) i j k u (inr m) = processes_fine (suc n) ps (both_none (W p) _ i).1 (both_none (S p) _ j).1 (in_both Bound (lists_in_process p) _ k).1 u m

  main_fine : (m : Main) → in_main (macro_offences (reverse a.macros) a.procedures) a.procedures (sight_inside a o) m ≡ [] → main_rebinds o.extended a.procedures (macro_rebinds o.extended a.procedures (reverse a.macros)) (standing_inside a o) m ≡ []
      → AllIn Bound (lists_in_main m) → (u : Routine) → OneOf u (main_routines a m) → StartsFine u
  main_fine (alone b) i j k u (inl e) = subst StartsFine (sym e) tt
  main_fine (alone b) i j k u (inr m) = absurd m
  main_fine (processes ps) i j k u m = processes_fine (first_process a) ps i j k u m

  -- nor does the expression of a process's identifiers
  identities_used : (ps : List Process) → flat_map W ps ≡ [] → (p : Process) → OneOf p ps → in_whole p.identity (sight_inside a o) ≡ []
  identities_used [] i p m = absurd m
  identities_used (q ∷ ps) i p (inl e) = ap (λ (r : Process). in_whole r.identity (sight_inside a o)) e ∙ (both_none (in_whole q.identity (sight_inside a o)) _ (both_none (W q) _ i).0).0
  identities_used (q ∷ ps) i p (inr m) = identities_used ps (both_none (W q) _ i).1 p m

  module _ (q : use_offences_of a o ≡ []) where
    uses : (flat_map V a.procedures ≡ []) × (in_main (macro_offences (reverse a.macros) a.procedures) a.procedures (sight_inside a o) a.main ≡ [])
    uses =
        let d = (both_none (in_declared a.globals (sight_inside a o)) _ q).1 in
        both_none (flat_map V a.procedures) _ (both_none (in_definitions a.definitions (seeing_variables (declared a.globals) (sight_outside o))) _ d).1

    pub identity_used : (m : Main) (ps : List Process) → a.main ≡ processes ps → (p : Process) → OneOf p ps → in_whole p.identity (sight_inside a o) ≡ []
    identity_used m ps e p k = identities_used ps (sym (ap (in_main (macro_offences (reverse a.macros) a.procedures) a.procedures (sight_inside a o)) e) ∙ uses.1) p k

    pub routine_fine : rebind_offences_of a o ≡ [] → AllIn Bound (bound_lists a) → (u : Routine) → OneOf u (routines a) → StartsFine u
    routine_fine r g u k =
        let i = both_none (starts_rebind o.extended any_name a.globals (standing_inside a o)) _ r in
        let j = both_none (definitions_rebind o.extended a.definitions (standing_outside a o)) _ i.1 in
        let l = both_none (texts_rebind o.extended a.procedures (macro_rebinds o.extended a.procedures) (standing_inside a o) (reverse a.macros)) _ j.1 in
        let m = both_none (flat_map R a.procedures) _ l.1 in
        let b1 = in_both Bound (lists_in_declared a.globals) _ g in
        let b2 = in_both Bound (flat_map (λ (c : tree.Definition). lists_in c.body) a.definitions) _ b1.1 in
        let b3 = in_both Bound (flat_map (λ (c : Macro). lists_in_body c.body) a.macros) _ b2.1 in
        let b4 = in_both Bound (flat_map lists_in_procedure a.procedures) (lists_in_main a.main) b3.1 in
        by m.0 m.1 b4.0 b4.1 (one_either u (procedure_routines a) (main_routines a a.main) k)
      where
        by : flat_map R a.procedures ≡ [] → main_rebinds o.extended a.procedures (macro_rebinds o.extended a.procedures (reverse a.macros)) (standing_inside a o) a.main ≡ []
            → AllIn Bound (flat_map lists_in_procedure a.procedures) → AllIn Bound (lists_in_main a.main) → OneOf u (procedure_routines a) ⊎ OneOf u (main_routines a a.main) → StartsFine u
        by m n b c (inl x) = procedures_fine (first_procedure a) a.procedures uses.0 m b u x
        by m n b c (inr x) = main_fine a.main uses.1 n c u x

-- ---- an accepted algorithm

module _ (o : Outside) (a : Algorithm) (h : IsAcceptedInFile o a) (values : Valuation) where
  abbrev P : Program
  P = program_in plain o a values

  abbrev E : List Definition
  E = extra_of a

  bound_all : AllIn (Bound o a) (bound_lists a)
  bound_all = each_from (Bound o a) (words (all_of (bound_lists a))) (λ x k. (one_is_among (words (all_of (bound_lists a))) x k, one_each_of (Unreserved o) (words (all_of (bound_lists a))) (free o a h).bound x k))

  pub all_fine : (u : Routine) → OneOf u (routines a) → StartsFine o a u
  all_fine u k = routine_fine o a (rules_of_names a o h.accepted.names).0 (rules_of_names a o h.accepted.names).2 bound_all u k

  bound_kept : (x : Word) → is_among (words (all_of (bound_lists a))) x ≡ true → is_among (kept a) x ≡ true
  bound_kept x e =
      among_later (declared a.globals) _ x
      (among_later (flat_map (λ (d : tree.Definition). d.name.word ∷ words d.params) a.definitions) _ x
      (among_later (flat_map (λ (d : Macro). words d.params) a.macros) (words (all_of (bound_lists a))) x e))

  bound_not_own : (x : Word) → Bound o a x → is_own_variable P x ≡ false
  bound_not_own x b =
      none_among (own_variables P) x
      (own_each P (λ y. bytes_eq y x ≡ false) (own_differs pc x refl (not_own o x b.1)) (stack_each P (λ y. bytes_eq y x ≡ false) (procedure_routines a) (own_differs stack x refl (not_own o x b.1)))
      (λ z k t y m. turned x (written P z y) (kept_differs o a h values z y k m x (bound_kept x b.0))))

  module _ (u : Routine) (k : OneOf u (routines a)) where
    -- a name that an initial value binds
    abbrev B : Word → Type 0
    B x = Bound o a x × Free o.extended a.procedures (standings_of o a u) x

    may_bind : (x : Word) → Bound o a x → may_rebind o.extended x ≡ true
    may_bind x b = ap not b.1

    no_local : (x : Word) → B x → declares (locals u) x ≡ false
    no_local x b =
        false_among (declares (locals u) x) (λ q. never (sym ((λ i. in_named (declared (locals u)) (standing_inside a o) x q i && may_bind x b.0 i)) ∙ b.1))

    local_apart : (x : Word) → B x → Apart (renames P u) x
    local_apart x b = record {
      left = λ at. ap (λ c. cond c (Some (node (name (written P u x)) at no_trees)) None) (no_local x b);
      unread = λ y at. unread y at (declares (locals u) y) refl;
    }
      where
        unread : (y : Word) (at : Place) (c : Bool) → declares (locals u) y ≡ c → NotFreeIn x (cond c (Some (node (name (written P u y)) at no_trees)) None)
        unread y at true e = (kept_differs o a h values u y k (among_one (declared (locals u)) y e) x (bound_kept x b.0.0), tt)
        unread y at false e = tt

    own_apart : (x : Word) → B x → Apart (owned self (is_own_variable P)) x
    own_apart x b = record {
      left = λ at. ap (λ c. cond c (Some (own_part self x at)) None) (bound_not_own x b.0);
      unread = λ y at. unread y at (is_own_variable P y) refl;
    }
      where
        differs : (y : Word) → is_own_variable P y ≡ true → bytes_eq x y ≡ false
        differs y e = false_among (bytes_eq x y) (λ q. never (sym e ∙ ap (is_own_variable P) (sym ((bytes_eq-Decides x y).0 q)) ∙ bound_not_own x b.0))

        unread : (y : Word) (at : Place) (c : Bool) → is_own_variable P y ≡ c → NotFreeIn x (cond c (Some (own_part self y at)) None)
        unread y at true e = (tt, ((differs y e, tt), ((turned self x (own_differs self x refl (not_own o x b.0.1)), tt), tt)))
        unread y at false e = tt

    binds_clear : (g : Graft) → ((x : Word) → B x → Apart g x) → (e : Tree) → Every (BindsAll B) e → Every (BindsClear plain g) e
    binds_clear g f e q = every_weaker (BindsAll B) (BindsClear plain g) (λ m at z. each_weaker B _ (λ x b. apart_clear plain g x (f x b)) (binders m) z) e q

    -- ---- one expression

    module _ (e : Tree) (used : in_whole e (sight_of o a u) ≡ []) (once : whole_rebinds o.extended e (standings_of o a u) ≡ []) (bound : AllIn (Bound o a) (lists_in e)) where
      all_binds : Every (BindsAll B) e
      all_binds =
          every_weaker _ (BindsAll B) (λ m at z. each_two (Bound o a) (Free o.extended a.procedures (standings_of o a u)) B (λ x i j. (i, j)) (binders m) z.0 z.1) e
          (throughout_both (BindsAll (Bound o a)) (BindsFree o.extended a.procedures (standings_of o a u)) (Bound o a) (Free o.extended a.procedures (standings_of o a u)) (body_of e)
          (body_bound (Bound o a) [] (λ d m. absurd m) (body_of e) (subst (AllIn (Bound o a)) (sym (append-nil (lists_in e))) bound))
          (written_bare o.extended a.procedures [] (body_of e) (standings_of o a u) (ap (λ xs. xs ++ []) once))).0

      renamed_binds : Every (BindsAll B) (renamed P u e)
      renamed_binds = grafted_binds B (renames P u) (λ x at. by x at (declares (locals u) x)) e all_binds
        where
          by : (x : Word) (at : Place) (c : Bool) → Has (BindsAll B) B (renames P u) (cond c (Some (node (name (written P u x)) at no_trees)) None)
          by x at true = (tt, tt)
          by x at false = tt

      written_binds : Every (BindsAll B) (written_in P u e)
      written_binds = grafted_binds B (owned self (is_own_variable P)) (λ x at. by x at (is_own_variable P x)) (renamed P u e) renamed_binds
        where
          by : (x : Word) (at : Place) (c : Bool) → Has (BindsAll B) B (owned self (is_own_variable P)) (cond c (Some (own_part self x at)) None)
          by x at true = (tt, ((tt, tt), ((tt, tt), tt)))
          by x at false = tt

      sees_all : Sees (sight_of o a u) (Seen P E u)
      sees_all =
          sees_map (knowing variable) (Seen P E u) (declared (locals u)) (sight_inside a o)
          (λ x m n. or_left (declares (locals u) x) (common P E x) (one_is_among (declared (locals u)) x m))
          (λ y n. or_right (declares (locals u) y) (common P E y) (sees_inside o (Common P E) (used_outside o a h values) a (global_common o a h values) (defined_common o a h values) y n))

      pub is_named : IsNamed P E u e
      is_named = record {
        names = binds_clear (renames P u) local_apart e all_binds;
        own = binds_clear (owned self (is_own_variable P)) own_apart (renamed P u e) renamed_binds;
        reads = tree_seen e false (sight_of o a u) (Seen P E u) sees_all used;
      }

      -- the identifier of a single process may be put in
      pub put_clear : (t : Tree) → in_whole t (sight_inside a o) ≡ [] → Every (BindsClear plain (in_place_of self t)) (written_in P u e)
      put_clear t i = binds_clear (in_place_of self t) apart (written_in P u e) written_binds
        where
          reads : FreeNames (InScope o a (standing_inside a o)) Any t
          reads = tree_seen t false (sight_inside a o) (InScope o a (standing_inside a o)) (seen_in_scope o a []) i

          other : (x : Word) → B x → (y : Word) → InScope o a (standing_inside a o) y → bytes_eq x y ≡ false
          other x b y s = false_among (bytes_eq x y) (λ q. clash s ((bytes_eq-Decides x y).0 q))
            where
              clash : InScope o a (standing_inside a o) y → x ≡ y → ⊥
              clash (inl s) q =
                  never (sym (λ i. in_rest (declared (locals u)) (standing_inside a o) x (ap (in_scope (standing_inside a o)) q ∙ s) i && may_bind x b.0 i) ∙ b.1)
              clash (inr s) q = never (sym (may_bind x b.0) ∙ ap (may_rebind o.extended) q ∙ s)

          no_self : (x : Word) → B x → bytes_eq self x ≡ false
          no_self x b = own_differs self x refl (not_own o x b.0.1)

          apart : (x : Word) → B x → Apart (in_place_of self t) x
          apart x b = record { left = λ at. ap (λ c. cond c (Some t) None) (no_self x b); unread = λ y at. unread (bytes_eq self y) }
            where
              unread : (c : Bool) → NotFreeIn x (cond c (Some t) None)
              unread true = free_weaker (InScope o a (standing_inside a o)) (IsOther x) (other x b) t reads
              unread false = tt
