-- Written returns and calls assign each variable once, and can be written, but that their names are of some kind.
use Rattle.std.proofs.Common.{◌≡◌, Bool, true, false, cond, List, [], ◌∷◌, ◌++◌, length, nat_eq, bytes_eq, Option, Some, inl, inr, refl, sym, ap, subst, ◌∙◌, arith}
use Rattle.tla_token.specs.declared.place.Place.{Place}
use Rattle.tla_tree.specs.Tree.{Word, Each, Tree, Trees, no_trees, tree, root_place}
use Rattle.tla_tree.specs.laws.Writable.{IsIdentifier, IsString, count, IsWritable}
use Rattle.tla_tree.proofs.SpelledTrees.{each_left, each_right}
use Rattle.pcal_tree.specs.Algorithm.{Name, Span, Declaration, Routine, locals, procedure_routines, Assignments, no_assignments, assignment, assign, Statements, then}
use Rattle.pcal_tree.specs.Run.{Partner, no_partner, goto_partner, return_partner}
use Rattle.pcal_tree.specs.Processes.{OneOf}
use Rattle.pcal_tree.specs.Program.{Program, written}
use Rattle.pcal_tree.specs.Calls.{label_name, first_label, routine_named}
use Rattle.pcal_tree.specs.Variables.{written_all, pc, stack}
use Rattle.action_builder.specs.Jumps.{name_at, text_at, one_assignment, spot, jump_written, kept_field, stack_rest, fields_restored, return_assignments, return_written, names_at, stack_pushed, arguments_assigned, variables_written, call_written, kept_fields, values_kept, stack_replaced, fields_of, others_restored, pair_body, pair_written, InitialValues, JumpPlaces, call_with, call_to, written_jumps}
use Rattle.action_builder.specs.Written.{old_stack}
use Rattle.action_builder.specs.laws.Jumps.{Unlike, AllUnlike}
use Rattle.action_builder.proofs.FitTrees.{Fits, AllFit, HasIdentifiers, writable_fits, all_fit_more}
use Rattle.action_builder.proofs.FitStatements.{AssignmentsFit, OrOld, StatementsFit, IsPlain}
use Rattle.action_builder.specs.laws.InParts.{Beside, InParts}
use Rattle.action_builder.proofs.FitSettled.{PartnerFits, identifiers_or}
use Rattle.action_builder.proofs.FitJumps.{identifier_field, NamesFit, unlike_first, parameters_first, differ, pc_name, stack_name, named_fits, text_fits, field_fits, rest_fits, names_fit, kept_fit, pushed_fits, one_fits, restored_fit, arguments_fit, fields_fit, jump_fits}
use Rattle.action_builder.proofs.Equal.{other-name}

-- ---- each variable once

-- x is none of these names, and none of those after them
beside_restored : (at : Place) (x : Word) (xs : List Word) (ms : Assignments) → Unlike x xs → Beside (name_at at x) ms → Beside (name_at at x) (fields_restored at xs ms)
beside_restored at x [] ms h b = b
beside_restored at x (y ∷ ys) ms h b = (differ x y h.0, beside_restored at x ys ms h.1 b)

-- y is none of the names
parts_restored : (at : Place) (y : Word) (e : Tree) (xs : List Word) → AllUnlike xs → Unlike y xs → InParts (fields_restored at xs (assignment (name_at at y) e no_assignments))
parts_restored at y e [] h k = (tt, tt)
parts_restored at y e (x ∷ xs) h k =
    (beside_restored at x xs (assignment (name_at at y) e no_assignments) h.0 (differ x y (other-name y x k.0), tt), parts_restored at y e xs h.1 k.1)

beside_arguments : (at : Place) (x : Word) (xs : List Word) (ts : Trees) → Unlike x xs → Beside (name_at at x) (arguments_assigned xs ts)
beside_arguments at x (y ∷ ys) (tree t ts) h = (differ x y h.0, beside_arguments at x ys ts h.1)
beside_arguments at x [] ts h = tt
beside_arguments at x (y ∷ ys) no_trees h = tt

parts_arguments : (xs : List Word) (ts : Trees) → AllUnlike xs → InParts (arguments_assigned xs ts)
parts_arguments (x ∷ xs) (tree t ts) h = (beside_arguments (root_place t) x xs ts h.0, parts_arguments xs ts h.1)
parts_arguments [] ts h = tt
parts_arguments (x ∷ xs) no_trees h = tt

beside_fields : (at : Place) (st x : Word) (xs : List Word) → Unlike x xs → Beside (name_at at x) (fields_of at st xs)
beside_fields at st x [] h = tt
beside_fields at st x (y ∷ ys) h = (differ x y h.0, beside_fields at st x ys h.1)

parts_fields : (at : Place) (st : Word) (xs : List Word) → AllUnlike xs → InParts (fields_of at st xs)
parts_fields at st [] h = tt
parts_fields at st (x ∷ xs) h = (beside_fields at st x xs h.0, parts_fields at st xs h.1)

-- ---- returns

return_parts : (P : Program) (p : Routine) (at : Place) → NamesFit P p → InParts (return_assignments P p at)
return_parts P p at h =
    (beside_restored at pc (written_all P p (locals p)) (one_assignment (name_at at stack) (stack_rest at)) h.pc ((λ q. cc), tt), parts_restored at stack (stack_rest at) (written_all P p (locals p)) h.apart h.stack)

pub return_fits : (N : Word → Type 0) → HasIdentifiers N → (P : Program) (p : Routine) (at : Place) → NamesFit P p → StatementsFit N IsPlain (return_written P p at)
return_fits N j P p at h = (
  return_parts P p at h,
  one_fits N j at pc (kept_field at pc) (fields_restored at (written_all P p (locals p)) (one_assignment (name_at at stack) (stack_rest at))) pc_name (field_fits N j at stack pc (j stack stack_name) (identifier_field pc pc_name))
      (restored_fit N j at (written_all P p (locals p)) (one_assignment (name_at at stack) (stack_rest at)) h.identifiers (one_fits N j at stack (stack_rest at) no_assignments stack_name (rest_fits N j at) tt)),
  tt,
)

-- ---- calls

-- what is asked of a procedure that is called: its written names, its first label and its variables' initial values
pub record CalledFits (P : Program) (I : InitialValues) (p : Routine) : Type 0 where
  pub names : NamesFit P p
  pub label : IsString (label_name P p (first_label p))
  pub initials : (d : Declaration) → OneOf d p.variables → IsWritable (I.initial p d)

module _ (N : Word → Type 0) (j : HasIdentifiers N) (P : Program) (I : InitialValues) (p : Routine) (h : CalledFits P I p) where
  split : (Q : Word → Type 0) → Each Q (written_all P p (locals p)) → Each Q (written_all P p p.params ++ written_all P p p.variables)
  split Q k = subst (Each Q) (parameters_first P p) k

  parameter_names : Each IsIdentifier (written_all P p p.params)
  parameter_names = each_left IsIdentifier (written_all P p p.params) (written_all P p p.variables) (split IsIdentifier h.names.identifiers)

  variable_names : Each IsIdentifier (written_all P p p.variables)
  variable_names = each_right IsIdentifier (written_all P p p.params) (written_all P p p.variables) (split IsIdentifier h.names.identifiers)

  parameters_apart : AllUnlike (written_all P p p.params)
  parameters_apart = unlike_first (written_all P p p.params) (written_all P p p.variables) (subst AllUnlike (parameters_first P p) h.names.apart)

  stack_apart : Unlike stack (written_all P p p.params)
  stack_apart = each_left (λ y. bytes_eq stack y ≡ false) (written_all P p p.params) (written_all P p p.variables) (split (λ y. bytes_eq stack y ≡ false) h.names.stack)

  variables_fit : (ds : List Declaration) → ((d : Declaration) → OneOf d ds → IsWritable (I.initial p d)) → Each IsIdentifier (written_all P p ds) → (last : Statements) → StatementsFit N IsPlain last
      → StatementsFit N IsPlain (variables_written P p (I.place p) (I.initial p) ds last)
  variables_fit [] f i last k = k
  variables_fit (d ∷ ds) f i last k =
      ((tt, tt), one_fits N j (I.place p d) (written P p d.name.word) (I.initial p d) no_assignments i.0 (writable_fits N j (I.initial p d) (f d (inl refl))) tt, variables_fit ds (λ c o. f c (inr o)) i.1 last k)

  -- the stack and the parameters, and then more
  entered_fits : (at : Place) (st : Tree) (ts : Trees) (rest : Statements) → Fits N st → AllFit N ts → StatementsFit N IsPlain rest
      → StatementsFit N IsPlain (then (spot at) (assign (assignment (name_at at stack) st (arguments_assigned (written_all P p p.params) ts))) rest)
  entered_fits at st ts rest s k r = (
    (beside_arguments at stack (written_all P p p.params) ts stack_apart, parts_arguments (written_all P p p.params) ts parameters_apart),
    one_fits N j at stack st (arguments_assigned (written_all P p p.params) ts) stack_name s (arguments_fit N j (written_all P p p.params) ts parameter_names k),
    r,
  )

  names_count : (at : Place) (xs : List Word) → count (names_at at xs) ≡ length xs
  names_count at [] = refl
  names_count at (x ∷ xs) = (let c = names_count at xs in omega (arith, c))

  kept_count : (at : Place) (xs : List Word) → count (kept_fields at xs) ≡ length xs
  kept_count at [] = refl
  kept_count at (x ∷ xs) = (let c = kept_count at xs in omega (arith, c))

  pub call_fits : (at : Place) (ts : Trees) (back : Word) → IsString back → AllFit N ts → StatementsFit N IsPlain (call_written P p at ts back (I.place p) (I.initial p))
  call_fits at ts back b k =
      entered_fits at (stack_pushed P p at back) ts (variables_written P p (I.place p) (I.initial p) p.variables (jump_written at (label_name P p (first_label p))))
      (pushed_fits N j P p at (text_at at back) (names_at at (written_all P p (locals p))) (name_at at stack) h.names (text_fits N j at back b) (names_fit N j at (written_all P p (locals p)) h.names.identifiers)
      (names_count at (written_all P p (locals p))) (named_fits N j at stack stack_name))
      k (variables_fit p.variables h.initials variable_names (jump_written at (label_name P p (first_label p))) (jump_fits N j at (label_name P p (first_label p)) h.label))

  -- ---- a call that is one statement with a return in u

  module _ (u : Routine) (names : NamesFit P u) (same : nat_eq u.number p.number ≡ true → u ≡ p) where
    values_fit : (at end : Place) → AllFit N (values_kept P u p at end) × (count (values_kept P u p at end) ≡ length (written_all P p (locals p)))
    values_fit at end = by (nat_eq u.number p.number) same
      where
        by : (b : Bool) → (b ≡ true → u ≡ p)
            → AllFit N (cond b (kept_fields end (written_all P u (locals u))) (names_at at (written_all P p (locals p)))) × (count (cond b (kept_fields end (written_all P u (locals u))) (names_at at (written_all P p (locals p)))) ≡ length (written_all P p (locals p)))
        by true e = (kept_fit N j end (written_all P u (locals u)) names.identifiers, kept_count end (written_all P u (locals u)) ∙ ap (λ (q : Routine). length (written_all P q (locals q))) (e refl))
        by false e = (names_fit N j at (written_all P p (locals p)) h.names.identifiers, names_count at (written_all P p (locals p)))

    others_fit : (end : Place) → N old_stack → InParts (others_restored P u p end) × AssignmentsFit N (others_restored P u p end)
    others_fit end n = by (nat_eq u.number p.number)
      where
        by : (b : Bool) → InParts (cond b no_assignments (fields_of end old_stack (written_all P u (locals u)))) × AssignmentsFit N (cond b no_assignments (fields_of end old_stack (written_all P u (locals u))))
        by true = (tt, tt)
        by false = (parts_fields end old_stack (written_all P u (locals u)) names.apart, fields_fit N j end old_stack n (written_all P u (locals u)) names.identifiers)

    body_fits : N old_stack → (at end : Place) (ts : Trees) → AllFit N ts → StatementsFit N IsPlain (pair_body P u p at end ts (I.place p) (I.initial p))
    body_fits n at end ts k =
        let values = values_fit at end in
        let others = others_fit end n in
        entered_fits at (stack_replaced P u p at end) ts _
        (pushed_fits N j P p at (kept_field end pc) (values_kept P u p at end) (stack_rest end) h.names (field_fits N j end stack pc (j stack stack_name) (identifier_field pc pc_name)) values.0 values.1 (rest_fits N j end))
        k (variables_fit p.variables h.initials variable_names _ (others.0, others.1, jump_fits N j at (label_name P p (first_label p)) h.label))

-- within it the old stack has a name
pub pair_fits : (N : Word → Type 0) → HasIdentifiers N → (P : Program) (I : InitialValues) (p : Routine) → CalledFits P I p → (u : Routine) → NamesFit P u → (nat_eq u.number p.number ≡ true → u ≡ p)
    → (at end : Place) (ts : Trees) → AllFit N ts → StatementsFit N IsPlain (pair_written P u p at end ts (I.place p) (I.initial p))
pair_fits N j P I p h u names same at end ts k =
    (tt, inr ((refl, named_fits N j end stack stack_name), body_fits (OrOld N) (identifiers_or N j) P I p h u names same (inr refl) at end ts (all_fit_more N (OrOld N) (λ x n. inl n) ts k)), tt)

-- ---- all of a routine u

-- what is asked of the procedures: each can be called, and is u where it has its number
pub record ProceduresFit (P : Program) (I : InitialValues) (u : Routine) : Type 0 where
  pub own : NamesFit P u
  pub called : (x : Word) (p : Routine) → routine_named x (procedure_routines P.algorithm) ≡ Some p → CalledFits P I p
  pub same : (x : Word) (p : Routine) → routine_named x (procedure_routines P.algorithm) ≡ Some p → nat_eq u.number p.number ≡ true → u ≡ p

-- there is a procedure of this name
abbrev pub IsProcedure : Program → Word → Type 0
IsProcedure P x = (p : Routine) × (routine_named x (procedure_routines P.algorithm) ≡ Some p)

module _ (P : Program) (u : Routine) (I : InitialValues) (places : JumpPlaces) (h : ProceduresFit P I u) (labels : (l : Word) → IsString l → IsString (label_name P u l)) where
  pub goes_fit : (N : Word → Type 0) → HasIdentifiers N → (l : Word) → IsString l → StatementsFit N IsPlain ((written_jumps P u I places).goto l)
  goes_fit N j l s = jump_fits N j places.goto (label_name P u l) (labels l s)

  pub returns_fit : (N : Word → Type 0) → HasIdentifiers N → (at : Span) → StatementsFit N IsPlain ((written_jumps P u I places).return at)
  returns_fit N j at = return_fits N j P u (places.return at) h.own

  with_fits : (N : Word → Type 0) → HasIdentifiers N → (at : Span) (ts : Trees) (l : Word) (k : Partner) → AllFit N ts → IsString l → PartnerFits k → (p : Routine) → CalledFits P I p → (nat_eq u.number p.number ≡ true → u ≡ p)
      → StatementsFit N IsPlain (call_with P u I places at ts l k p)
  with_fits N j at ts l no_partner f s q p c e = call_fits N j P I p c (places.call at) ts (label_name P u l) (labels l s) f
  with_fits N j at ts l (goto_partner m) f s q p c e = call_fits N j P I p c (places.call at) ts (label_name P u m) (labels m q) f
  with_fits N j at ts l (return_partner end) f s q p c e = pair_fits N j P I p c u h.own e (places.call at) (places.return end) ts f

  pub calls_fit : (N : Word → Type 0) → HasIdentifiers N → (at : Span) (p : Name) (ts : Trees) (l : Word) (k : Partner) → IsProcedure P p.word → AllFit N ts → IsString l → PartnerFits k
      → StatementsFit N IsPlain ((written_jumps P u I places).call at p ts l k)
  calls_fit N j at p ts l k c f s q =
      subst (λ (o : Option Routine). StatementsFit N IsPlain (call_to P u I places at ts l k o)) (sym c.1)
      (with_fits N j at ts l k f s q c.0 (h.called p.word c.0 c.1) (h.same p.word c.0 c.1))
