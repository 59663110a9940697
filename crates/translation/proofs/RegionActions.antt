-- The actions of the written module can be written.
use Rattle.std.proofs.Common.{◌≡◌, List, [], ◌∷◌, ◌++◌, Bool, true, false, ◌||◌, not, cond, map, reverse, Option, Some, None, inl, inr, refl, ap, subst}
use Rattle.std.specs.Prelude.{filter}
use Rattle.std.specs.List.{AllByRecursion}
use Rattle.tla_tree.specs.Tree.{Word, Each, Tree}
use Rattle.tla_tree.specs.laws.Writable.{IsIdentifier, IsString, IsWritable}
use Rattle.tla_value.specs.Outside.{Outside}
use Rattle.tla_value.specs.Grafts.{owned}
use Rattle.module_tree.specs.Module.{Items, one_way}
use Rattle.module_tree.specs.Formulas.{self, named, quoted, equal}
use Rattle.module_tree.specs.laws.WritableRegion.{AllOf, IsCall, IsWay, IsParameter, IsAction}
use Rattle.pcal_tree.specs.Algorithm.{Declaration, declares, locals, Main, alone, processes, Routine, procedure_routines, main_routines, routines, Algorithm}
use Rattle.pcal_tree.specs.Calls.{label_name}
use Rattle.pcal_tree.specs.Expand.{expanded, written_out}
use Rattle.pcal_tree.specs.OffencesLabels.{label_words}
use Rattle.pcal_tree.specs.Processes.{OneOf}
use Rattle.pcal_tree.specs.Program.{Program}
use Rattle.pcal_tree.specs.Run.{unlabelled}
use Rattle.pcal_tree.specs.StepStart.{Begin, at_label}
use Rattle.pcal_tree.specs.Takers.{Takers, each_of, single, lone, Taken}
use Rattle.pcal_tree.specs.Variables.{declared, pc, stack_for, written_all, written_by_all, vars}
use Rattle.pcal_tree.proofs.BodyLabels.{same_labels}
use Rattle.pcal_tree.proofs.TroubleLaws.{one_left, one_right}
use Rattle.action_builder.specs.Jumps.{written_jumps}
use Rattle.action_builder.specs.LabelActions.{parameter_of, call_by, items_by, no_jump_places, written_initials, at_test, items_from, label_action, label_actions, own_action, routine_actions}
use Rattle.action_builder.specs.OwnVariables.{own_under, own_variables, is_own_variable, localised}
use Rattle.action_builder.specs.WrittenNames.{with_names, written_statements}
use Rattle.action_builder.proofs.FitTrees.{fit_writable, writable_fits, graft_fits, owned_put}
use Rattle.action_builder.proofs.FitItems.{SomeFit, fit_items, graft_some_fit, in_place_put}
use Rattle.action_builder.proofs.FitStatements.{StatementsFit}
use Rattle.action_builder.proofs.FitSettled.{IsLoose, all_settled}
use Rattle.action_builder.proofs.FitSides as sides
use Rattle.action_builder.proofs.FitWritten.{action_fits}
use Rattle.action_builder.proofs.FitJumps.{identifier_string}
use Rattle.action_builder.proofs.FitCalls.{IsProcedure, goes_fit, calls_fit, returns_fit}
use Rattle.action_builder.proofs.FitOwned.{owned_all}
use Rattle.translation.specs.laws.WritableAlgorithm.{AreWritableStatements, is_procedure, is_variable, IsLabelled, IsWritableDeclaration, IsWritableAlgorithm}
use Rattle.translation.proofs.WritableBodies.{IfBegun, begun, IsBegun, begins}
use Rattle.translation.proofs.NamedBodies.{open_all, named_all}
use Rattle.translation.proofs.RoutinesNamed.{IsTitled, one_each_of, local_names, label_identifiers, variables_named, names_fit, title_free, label_name_free, label_name_string}
use Rattle.translation.proofs.CalledProcedures.{is_called, exit_string, procedures_fit}
use Rattle.pcal_tree.proofs.OneStand.{every_both}
use Rattle.action_builder.proofs.Names.{each_name}

-- ---- lists

pub every_map : {X Y : Type 0} (Q : Y → Type 0) (f : X → Y) (xs : List X) → ((x : X) → OneOf x xs → Q (f x)) → AllByRecursion Q (map f xs)
every_map Q f [] h = tt
every_map Q f (x ∷ xs) h = (h x (inl refl), every_map Q f xs (λ y k. h y (inr k)))

-- there is one
abbrev pub IsSome : {X : Type 0} → List X → Type 0
IsSome [] = ⊥
IsSome (x ∷ xs) = Unit {0}

pub some_after : {X : Type 0} (xs ys : List X) → IsSome ys → IsSome (xs ++ ys)
some_after [] ys h = h
some_after (x ∷ xs) ys h = tt

pub some_before : {X : Type 0} (xs ys : List X) → IsSome xs → IsSome (xs ++ ys)
some_before [] ys h = absurd h
some_before (x ∷ xs) ys h = tt

pub all_of_each : {X : Type 0} (Q : X → Type 0) (xs : List X) → IsSome xs → AllByRecursion Q xs → AllOf Q xs
all_of_each Q [] s h = absurd s
all_of_each Q (x ∷ []) s h = h.0
all_of_each Q (x ∷ y ∷ xs) s h = (h.0, all_of_each Q (y ∷ xs) tt h.1)

pub one_filtered : (p : Routine → Bool) (u : Routine) (us : List Routine) → OneOf u (filter p us) → OneOf u us
one_filtered p u [] h = h
one_filtered p u (v ∷ us) h = by (one_filtered p u us) (p v) h
  where
    by : (OneOf u (filter p us) → OneOf u us) → (b : Bool) → OneOf u (cond b (v ∷ filter p us) (filter p us)) → OneOf u (v ∷ us)
    by f true (inl e) = inl e
    by f true (inr k) = inr (f k)
    by f false k = inr (f k)

-- ---- words of the translation

pub self_name : IsIdentifier self
self_name = ((refl, refl), refl)

pub named_writable : (x : Word) → IsIdentifier x → IsWritable (named x)
named_writable x h = (refl, (h, tt), tt, tt, tt)

pub quoted_writable : (w : Word) → IsString w → IsWritable (quoted w)
quoted_writable w h = (refl, tt, tt, (h, tt), tt)

pub equal_writable : (s t : Tree) → IsWritable s → IsWritable t → IsWritable (equal s t)
equal_writable s t h k = ((refl, refl), tt, tt, tt, (h, (k, tt)))

-- who takes them can be written
abbrev pub TakersFit : Takers → Type 0
TakersFit (each_of s) = IsWritable s
TakersFit (single e) = IsWritable e
TakersFit lone = Unit {0}

pub call_writable : (t : Takers) (x : Word) → IsIdentifier x → IsCall (call_by t x)
call_writable (each_of s) x h = (h, named_writable self self_name)
call_writable (single e) x h = h
call_writable lone x h = h

parameter_writable : (t : Takers) → IsParameter (parameter_of t)
parameter_writable (each_of s) = self_name
parameter_writable (single e) = tt
parameter_writable lone = tt

items_fit : (t : Takers) → TakersFit t → (is : Items) → SomeFit IsIdentifier is → SomeFit IsIdentifier (items_by t is)
items_fit (each_of s) k is h = h
items_fit (single e) k is h = graft_some_fit IsIdentifier IsIdentifier _ (in_place_put IsIdentifier IsIdentifier self e (writable_fits IsIdentifier (λ x i. i) e k) (λ x d i. i)) is h
items_fit lone k is h = h

pub labels_some : (ls : List Word) → IsLabelled ls → IsSome ls
labels_some [] h = absurd h
labels_some (l ∷ ls) h = tt

pub some_map : {X Y : Type 0} (f : X → Y) (xs : List X) → IsSome xs → IsSome (map f xs)
some_map f [] h = absurd h
some_map f (x ∷ xs) h = tt

module _ (o : Outside) (a : Algorithm) (h : IsWritableAlgorithm o a) where
  abbrev program : Program
  program = with_names o a

  -- ---- variables

  by_all_identifiers : (us : List Routine) → ((u : Routine) → OneOf u us → OneOf u (routines a)) → Each IsIdentifier (written_by_all program us)
  by_all_identifiers [] f = tt
  by_all_identifiers (u ∷ us) f =
      sides.each_of IsIdentifier (written_all program u (locals u)) (written_by_all program us) (names_fit o a h u (f u (inl refl))).identifiers (by_all_identifiers us (λ v k. f v (inr k)))

  stack_identifiers : (us : List Routine) → Each IsIdentifier (stack_for us)
  stack_identifiers [] = tt
  stack_identifiers (u ∷ us) = (((refl, refl), refl), tt)

  pub globals_identifiers : Each IsIdentifier (declared a.globals)
  globals_identifiers = by a.globals h.globals
    where
      by : (ds : List Declaration) → AllByRecursion IsWritableDeclaration ds → Each IsIdentifier (declared ds)
      by [] k = tt
      by (d ∷ ds) k = (k.0.0, by ds k.1)

  pub procedures_in : (u : Routine) → OneOf u (procedure_routines a) → OneOf u (routines a)
  procedures_in u k = one_left u (procedure_routines a) (main_routines a a.main) k

  pub mains_in : (u : Routine) → OneOf u (main_routines a a.main) → OneOf u (routines a)
  mains_in u k = one_right u (procedure_routines a) (main_routines a a.main) k

  pub vars_identifiers : Each IsIdentifier (vars program)
  vars_identifiers =
      sides.each_of IsIdentifier _ _
      (sides.each_of IsIdentifier _ _ (sides.each_of IsIdentifier _ _ globals_identifiers (((refl, refl), refl), stack_identifiers (procedure_routines a))) (by_all_identifiers (procedure_routines a) procedures_in))
      (by_all_identifiers (main_routines a a.main) mains_in)

  own_identifiers : Each IsIdentifier (own_variables program)
  own_identifiers = by a.main mains_in
    where
      by : (m : Main) → ((u : Routine) → OneOf u (main_routines a m) → OneOf u (routines a)) → Each IsIdentifier (own_under program (procedure_routines a) (main_routines a m) m)
      by (alone ss) f = tt
      by (processes ps) f = (
        ((refl, refl), refl),
        sides.each_of IsIdentifier _ _ (sides.each_of IsIdentifier _ _ (stack_identifiers (procedure_routines a)) (by_all_identifiers (procedure_routines a) procedures_in))
            (by_all_identifiers (filter (λ u. u.spread) (main_routines a (processes ps))) (λ u k. f u (one_filtered (λ u. u.spread) u (main_routines a (processes ps)) k))),
      )

  own_identifier : (x : Word) → is_own_variable program x ≡ true → IsIdentifier x
  own_identifier x e = each_name IsIdentifier (own_variables program) own_identifiers x e

  pub localised_writable : (e : Tree) → IsWritable e → IsWritable (localised program e)
  localised_writable e w =
      fit_writable (localised program e)
      (graft_fits IsIdentifier IsIdentifier (owned self (is_own_variable program)) (owned_put IsIdentifier self (is_own_variable program) self_name) e (writable_fits IsIdentifier (λ x i. i) e w))

  -- ---- a label's action

  variable_identifier : (u : Routine) → OneOf u (routines a) → (x : Word) → is_variable a u x ≡ true → IsIdentifier x
  variable_identifier u k x e = by (declares a.globals x) refl e
    where
      by : (b : Bool) → declares a.globals x ≡ b → (b || declares (locals u) x) ≡ true → IsIdentifier x
      by true q d = each_name IsIdentifier _ globals_identifiers x q
      by false q d = each_name IsIdentifier _ (local_names o a h u k) x d

  module _ (u : Routine) (k : OneOf u (routines a)) where
    statements_fit : (b : Begin) → AreWritableStatements (is_procedure a) (is_variable a u) (expanded (reverse a.macros) b.items)
        → StatementsFit IsIdentifier (IsLoose (IsProcedure program)) (written_statements program u b.items)
    statements_fit b s =
        named_all program u (λ x. declares a.globals x) (variables_named o a h u k) (is_procedure a) (IsProcedure program) (is_called a) (expanded (reverse a.macros) b.items)
        (open_all (is_procedure a) (is_variable a u) (variable_identifier u k) (expanded (reverse a.macros) b.items) s)

    from_fits : (l : Word) → OneOf l (label_words u.body) → (q : Option Begin) → IsBegun q → IfBegun (is_procedure a) (is_variable a u) (written_out (reverse a.macros)) q → SomeFit IsIdentifier (items_from program u l q)
    from_fits l m None s t = absurd s
    from_fits l m (Some b) s t =
        let i = one_each_of IsIdentifier (label_words u.body) (label_identifiers o a h u k) l m in
        let w = writable_fits IsIdentifier (λ x i. i) (at_test program u l)
        (localised_writable (equal (named pc) (quoted (label_name program u l)))
        (equal_writable (named pc) (quoted (label_name program u l)) (named_writable pc ((refl, refl), refl)) (quoted_writable (label_name program u l) (label_name_string o a h u l (identifier_string l i))))) in (
          w,
          action_fits (vars program) vars_identifiers _
              (owned_all self (is_own_variable program) self_name own_identifier _
              (all_settled (IsProcedure program) identifier_string (written_jumps program u (written_initials program) no_jump_places)
              (goes_fit program u (written_initials program) no_jump_places (procedures_fit o a h u k) (λ l s. label_name_string o a h u l s))
              (calls_fit program u (written_initials program) no_jump_places (procedures_fit o a h u k) (λ l s. label_name_string o a h u l s))
              (returns_fit program u (written_initials program) no_jump_places (procedures_fit o a h u k) (λ l s. label_name_string o a h u l s))
              IsIdentifier (λ x i. i) l (identifier_string l i) b.exit t.1 (written_statements program u b.items) (statements_fit b t.0))),
        )

    label_fits : (l : Word) → OneOf l (label_words u.body) → SomeFit IsIdentifier (items_from program u l (at_label u l))
    label_fits l m =
        from_fits l m (at_label u l) (begins l unlabelled u.body u.exit (subst (OneOf l) (same_labels u.body) m))
        (begun (is_procedure a) (is_variable a u) (written_out (reverse a.macros)) l unlabelled refl u.body u.exit (exit_string a u k) (h.routines u k).body)

  label_writable : (t : Taken) → OneOf t.routine (routines a) → TakersFit t.takers → (l : Word) → OneOf l (label_words t.routine.body) → IsAction (label_action program t l)
  label_writable t k f l m =
      let n = label_name_free o a h t.routine l k m in
      (n.0, ap not n.1, parameter_writable t.takers, fit_items _ (items_fit t.takers f (items_from program t.routine l (at_label t.routine l)) (label_fits t.routine k l m)))

  pub labels_writable : (t : Taken) → OneOf t.routine (routines a) → TakersFit t.takers → AllByRecursion IsAction (label_actions program t)
  labels_writable t k f = every_map IsAction (label_action program t) (label_words t.routine.body) (label_writable t k f)

  -- ---- the action of a procedure or process

  own_writable : (t : Taken) → OneOf t.routine (routines a) → IsTitled a a.main t.routine → IsAction (own_action program t)
  own_writable t k d =
      let n = title_free o a h t.routine d in (
        n.0,
        ap not n.1,
        parameter_writable t.takers,
        all_of_each IsWay (map (λ l. one_way (call_by t.takers (label_name program t.routine l))) (label_words t.routine.body))
            (some_map (λ l. one_way (call_by t.takers (label_name program t.routine l))) (label_words t.routine.body) (labels_some (label_words t.routine.body) (h.routines t.routine k).labelled))
            (every_map IsWay (λ l. one_way (call_by t.takers (label_name program t.routine l))) (label_words t.routine.body) (λ l m. call_writable t.takers (label_name program t.routine l) (label_name_free o a h t.routine l k m).0)),
      )

  pub routine_writable : (t : Taken) → OneOf t.routine (routines a) → TakersFit t.takers → IsTitled a a.main t.routine → AllByRecursion IsAction (routine_actions program t)
  routine_writable t k f d = every_both IsAction (label_actions program t) (own_action program t ∷ []) (labels_writable t k f) (own_writable t k d, tt)
