-- The assignments that are written for jumps, calls and returns have variables as left sides; so statements for which a step can be written are settled.
use Rattle.std.proofs.Common.{◌≡◌, List, [], ◌∷◌, ◌++◌, Bool, true, false, cond, nat_eq, Option, Some, None, refl}
use Rattle.tla_token.specs.Signs.{is_among}
use Rattle.tla_token.specs.declared.place.Place.{Place}
use Rattle.tla_tree.specs.Tree.{Word, Name, Tree, Trees, no_trees, tree, Each}
use Rattle.module_tree.specs.Formulas.{self}
use Rattle.pcal_tree.specs.Algorithm.{nowhere, Span, Declaration, Assignments, no_assignments, Statements, then, assign, Routine, locals, procedure_routines, main_routines, routines}
use Rattle.pcal_tree.specs.Calls.{label_name, first_label, routine_named}
use Rattle.pcal_tree.specs.Processes.{OneOf}
use Rattle.pcal_tree.specs.Program.{Program}
use Rattle.pcal_tree.specs.Run.{Partner, no_partner, goto_partner, return_partner}
use Rattle.pcal_tree.specs.Variables.{declared, written_all, written_by_all, pc, stack, stack_for, vars}
use Rattle.pcal_tree.proofs.StepVariables.{named_one}
use Rattle.pcal_tree.proofs.TroubleLaws.{one_left}
use Rattle.action_builder.specs.Jumps.{one_assignment, name_at, stack_rest, fields_restored, return_written, jump_written, arguments_assigned, variables_written, call_written, fields_of, others_restored, pair_body, call_with, call_to, written_jumps}
use Rattle.action_builder.specs.LabelActions.{no_jump_places, initial_tree, written_initials}
use Rattle.action_builder.specs.OwnVariables.{is_own_variable}
use Rattle.action_builder.specs.Settled.{settled}
use Rattle.action_builder.specs.Written.{old_stack}
use Rattle.action_builder.specs.laws.Ready.{LeftSides, Settled}
use Rattle.translation.proofs.RoutinesNamed.{among_before, among_later, each_map}
use Rattle.translation.proofs.VariableNames.{local_among}
use Rattle.build_premises.specs.Buildable.{HasOne, buildable, Buildable, SettledFor}
use Rattle.build_premises.proofs.SettledParts.{all_settled, all_owned}

-- ---- assignments to variables

module _ (V : Word → Bool) where
  restored : (at : Place) (xs : List Word) (last : Assignments) → Each (λ x. V x ≡ true) xs → LeftSides V last → LeftSides V (fields_restored at xs last)
  restored at [] last h k = k
  restored at (x ∷ xs) last h k = (h.0, restored at xs last h.1 k)

  arguments : (xs : List Word) (ts : Trees) → Each (λ x. V x ≡ true) xs → LeftSides V (arguments_assigned xs ts)
  arguments [] no_trees h = tt
  arguments [] (tree t ts) h = tt
  arguments (x ∷ xs) no_trees h = tt
  arguments (x ∷ xs) (tree t ts) h = (h.0, arguments xs ts h.1)

  fields : (at : Place) (st : Word) (xs : List Word) → Each (λ x. V x ≡ true) xs → LeftSides V (fields_of at st xs)
  fields at st [] h = tt
  fields at st (x ∷ xs) h = (h.0, fields at st xs h.1)

  started : (P : Program) (p : Routine) (place : Declaration → Place) (initial : Declaration → Tree) (ds : List Declaration) (last : Statements) → Each (λ x. V x ≡ true) (written_all P p ds) → Settled V last
      → Settled V (variables_written P p place initial ds last)
  started P p place initial [] last h k = k
  started P p place initial (d ∷ ds) last h k = ((h.0, tt), started P p place initial ds last h.1 k)

before : (P : Program) (p : Routine) (Q : Word → Type 0) (ds es : List Declaration) → Each Q (written_all P p (ds ++ es)) → Each Q (written_all P p ds) × Each Q (written_all P p es)
before P p Q [] es h = (tt, h)
before P p Q (d ∷ ds) es h = (let k = before P p Q ds es h.1 in ((h.0, k.0), k.1))

-- ---- in a routine

module _ (P : Program) (u : Routine) (there : OneOf u (routines P.algorithm)) where
  abbrev V : Word → Bool
  V x = is_among (vars P) x

  abbrev us : List Routine
  us = procedure_routines P.algorithm

  abbrev Variables : List Word → Type 0
  Variables xs = Each (λ x. is_among (vars P) x ≡ true) xs

  among_first : (x : Word) → is_among (pc ∷ stack_for us) x ≡ true → is_among (vars P) x ≡ true
  among_first x e =
      among_before ((declared P.algorithm.globals ++ (pc ∷ stack_for us)) ++ written_by_all P us) (written_by_all P (main_routines P.algorithm P.algorithm.main)) x
      (among_before (declared P.algorithm.globals ++ (pc ∷ stack_for us)) (written_by_all P us) x (among_later (declared P.algorithm.globals) (pc ∷ stack_for us) x e))

  pc_is : is_among (vars P) pc ≡ true
  pc_is = among_first pc refl

  stack_is : HasOne us → is_among (vars P) stack ≡ true
  stack_is h = among_first stack (by us h)
    where
      by : (ws : List Routine) → HasOne ws → is_among (pc ∷ stack_for ws) stack ≡ true
      by [] k = absurd k
      by (w ∷ ws) k = refl

  own_are : (p : Routine) → OneOf p (routines P.algorithm) → Variables (written_all P p (locals p))
  own_are p k = each_map (λ x. is_among (vars P) x ≡ true) (λ x. P.naming.local p.number x) (declared (locals p)) (λ x m. local_among P p x k m)

  has_one : (ws : List Routine) (p : Routine) → OneOf p ws → HasOne ws
  has_one [] p k = absurd k
  has_one (w ∷ ws) p k = tt

  goes : (l : Word) → Settled V (jump_written nowhere l)
  goes l = ((pc_is, tt), tt)

  returns : (at : Place) → HasOne us → Settled V (return_written P u at)
  returns at h = ((pc_is, restored V at (written_all P u (locals u)) (one_assignment (name_at at stack) (stack_rest at)) (own_are u there) (stack_is h, tt)), tt)

  module _ (p : Routine) (k : OneOf p us) (place : Declaration → Place) (initial : Declaration → Tree) where
    in_all : OneOf p (routines P.algorithm)
    in_all = one_left p us (main_routines P.algorithm P.algorithm.main) k

    parts : Variables (written_all P p p.params) × Variables (written_all P p p.variables)
    parts = before P p (λ x. is_among (vars P) x ≡ true) p.params p.variables (own_are p in_all)

    calls : (ts : Trees) (back : Word) → Settled V (call_written P p nowhere ts back place initial)
    calls ts back =
        ((stack_is (has_one us p k), arguments V (written_all P p p.params) ts parts.0), started V P p place initial p.variables (jump_written nowhere (label_name P p (first_label p))) parts.1 (goes (label_name P p (first_label p))))

    others : (b : Bool) → LeftSides V (cond b no_assignments (fields_of nowhere old_stack (written_all P u (locals u))))
    others true = tt
    others false = fields V nowhere old_stack (written_all P u (locals u)) (own_are u there)

    body : (ts : Trees) → Settled V (pair_body P u p nowhere nowhere ts place initial)
    body ts = (
      (stack_is (has_one us p k), arguments V (written_all P p p.params) ts parts.0),
      started V P p place initial p.variables (then _ (assign (others_restored P u p nowhere)) (jump_written nowhere (label_name P p (first_label p)))) parts.1 (others (nat_eq u.number p.number), goes (label_name P p (first_label p))),
    )

  by_partner : (p : Routine) (k : OneOf p us) (at : Span) (ts : Trees) (l : Word) (j : Partner) → Settled V (call_with P u (written_initials P) no_jump_places at ts l j p)
  by_partner p k at ts l no_partner = calls p k (λ d. nowhere) (λ d. initial_tree P p d.start) ts (label_name P u l)
  by_partner p k at ts l (goto_partner m) = calls p k (λ d. nowhere) (λ d. initial_tree P p d.start) ts (label_name P u m)
  by_partner p k at ts l (return_partner end) = (body p k (λ d. nowhere) (λ d. initial_tree P p d.start) ts, tt)

  called : (at : Span) (n : Name) (ts : Trees) (l : Word) (j : Partner) → Settled V (call_to P u (written_initials P) no_jump_places at ts l j (routine_named n.word us))
  called at n ts l j = by (routine_named n.word us) (λ p e. named_one n.word us p e)
    where
      by : (o : Option Routine) → ((p : Routine) → o ≡ Some p → OneOf p us) → Settled V (call_to P u (written_initials P) no_jump_places at ts l j o)
      by None f = (tt, tt)
      by (Some p) f = by_partner p (f p refl) at ts l j

  -- wherever they are, from any label
  pub buildable_settled : (here l : Word) (ss : Statements) → Buildable P ss → SettledFor P u here l ss
  buildable_settled here l ss h =
      let W = written_jumps P u (written_initials P) no_jump_places in
      all_owned V self (is_own_variable P) (settled W here l ss)
      (all_settled V (buildable P) (λ ms k. k) W (λ m. goes (label_name P u m)) (λ at n ts m j k. called at n ts m j) (λ at k. returns nowhere k) (λ k. k) here l ss h)
