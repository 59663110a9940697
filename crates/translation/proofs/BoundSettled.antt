-- What holds of all names that statements bind holds of those that they bind with their jumps, calls and returns written as assignments, which bind the name of the old
-- stack and what initial values bind.
use Rattle.std.proofs.Common.{◌≡◌, List, [], ◌∷◌, Bool, true, false, cond, ◌||◌, nat_eq, Option, Some, None, refl, inl, inr}
use Rattle.tla_token.specs.declared.place.Place.{Place}
use Rattle.tla_tree.specs.Tree.{Word, Form, Tree, Trees, no_trees, tree, Every, EveryOf, root_place}
use Rattle.pcal_tree.specs.Algorithm.{nowhere, Name, Span, Assignments, no_assignments, Statement, assign, await, print, assert, skip, branch, either, with, while, goto, macro, call, return, Statements, done, then, mark, Branches, no_branches, or, Declaration, Routine, locals, procedure_routines}
use Rattle.pcal_tree.specs.Calls.{label_name, first_label, routine_named}
use Rattle.pcal_tree.specs.Processes.{OneOf}
use Rattle.pcal_tree.specs.Program.{Program, written}
use Rattle.pcal_tree.specs.Run.{unlabelled, label_of, Partner, no_partner, goto_partner, return_partner, partner_of}
use Rattle.pcal_tree.specs.Variables.{written_all, pc, stack}
use Rattle.pcal_tree.specs.laws.Expansion.{ThroughoutAssignments, ThroughoutOne, Throughout, ThroughoutSome}
use Rattle.action_builder.specs.Jumps.{name_at, text_at, one_assignment, spot, jump_written, field_of, kept_field, stack_rest, fields_restored, names_at, pushed_on, arguments_assigned, variables_written, call_written, kept_fields, values_kept, fields_of, others_restored, pair_written, call_to, written_jumps}
use Rattle.action_builder.specs.LabelActions.{no_jump_places, initial_tree, written_initials}
use Rattle.action_builder.specs.Settled.{WrittenJumps, jumps, jumps_some, settled_one, settled, settled_some}
use Rattle.action_builder.specs.Written.{old_stack}
use Rattle.translation.proofs.BoundOf.{BindsAll}

module _ (N : Word → Type 0) where
  abbrev F : Form → Place → Type 0
  F = BindsAll N

  abbrev Holds : Statements → Type 0
  Holds = Throughout F N

  -- what stands for jumps, calls and returns binds such names alone
  pub record JumpsBind (W : WrittenJumps) : Type 0 where
    pub goto : (l : Word) → Holds (W.goto l)
    pub call : (at : Span) (p : Name) (ts : Trees) (l : Word) (j : Partner) → EveryOf F ts → Holds (W.call at p ts l j)
    pub return : (at : Span) → Holds (W.return at)

  cond_binds : (b : Bool) (x y : Statements) → Holds x → Holds y → Holds (cond b x y)
  cond_binds true x y h k = h
  cond_binds false x y h k = k

  module _ (W : WrittenJumps) (k : JumpsBind W) where
    mutual
      one_settled : (here l : Word) (j : Partner) (at : Span) (st : Statement) (rest : Statements) → ThroughoutOne F N st → Holds rest → Holds (settled_one W here l j at st rest)
      one_settled here l j at (goto m) rest h r = k.goto m
      one_settled here l j at (call p ts) rest h r = k.call at p ts l j h
      one_settled here l j at return rest h r = k.return at
      one_settled here l j at (branch e a b) rest h r =
          cond_binds (jumps a || jumps b) (then at (branch e (settled W unlabelled l a) (settled W unlabelled l b)) done) (then at (branch e a b) rest)
          ((h.0, all_settled unlabelled l a h.1, all_settled unlabelled l b h.2), tt) (h, r)
      one_settled here l j at (either bs) rest h r =
          cond_binds (jumps_some bs) (then at (either (settled_some W l bs)) done) (then at (either bs) rest) (some_settled l bs h, tt) (h, r)
      one_settled here l j at (with bs b) rest h r =
          cond_binds (jumps b) (then at (with bs (settled W unlabelled l b)) done) (then at (with bs b) rest) ((h.0, all_settled unlabelled l b h.1), tt) (h, r)
      one_settled here l j at (while e b) rest h r = ((h.0, all_settled unlabelled here b h.1, r), tt)
      one_settled here l j at (macro m ts) rest h r = absurd h
      one_settled here l j at (assign ms) rest h r = (h, r)
      one_settled here l j at (await e) rest h r = (h, r)
      one_settled here l j at (print e) rest h r = (h, r)
      one_settled here l j at (assert e) rest h r = (h, r)
      one_settled here l j at skip rest h r = (tt, r)

      pub all_settled : (here l : Word) (ss : Statements) → Holds ss → Holds (settled W here l ss)
      all_settled here l done h = k.goto l
      all_settled here l (then at st rest) h = one_settled here (label_of rest l) (partner_of rest) at st (settled W unlabelled l rest) h.0 (all_settled unlabelled l rest h.1)
      all_settled here l (mark m n rest) h = k.goto m.word

      some_settled : (l : Word) (bs : Branches) → ThroughoutSome F N bs → ThroughoutSome F N (settled_some W l bs)
      some_settled l no_branches h = tt
      some_settled l (or b bs) h = (all_settled unlabelled l b h.0, some_settled l bs h.1)

  -- ---- written jumps

  named : (at : Place) (x : Word) → Every F (name_at at x)
  named at x = (tt, tt)

  texted : (at : Place) (x : Word) → Every F (text_at at x)
  texted at x = (tt, tt)

  field_free : (at : Place) (st x : Word) → Every F (field_of at st x)
  field_free at st x = (tt, ((tt, (named at st, tt)), tt))

  rest_free : (at : Place) → Every F (stack_rest at)
  rest_free at = (tt, (named at stack, tt))

  names_free : (at : Place) (xs : List Word) → EveryOf F (names_at at xs)
  names_free at [] = tt
  names_free at (x ∷ xs) = (named at x, names_free at xs)

  kept_free : (at : Place) (xs : List Word) → EveryOf F (kept_fields at xs)
  kept_free at [] = tt
  kept_free at (x ∷ xs) = (field_free at stack x, kept_free at xs)

  restored_free : (at : Place) (xs : List Word) (ms : Assignments) → ThroughoutAssignments F ms → ThroughoutAssignments F (fields_restored at xs ms)
  restored_free at [] ms h = h
  restored_free at (x ∷ xs) ms h = (named at x, field_free at stack x, restored_free at xs ms h)

  fields_free : (at : Place) (st : Word) (xs : List Word) → ThroughoutAssignments F (fields_of at st xs)
  fields_free at st [] = tt
  fields_free at st (x ∷ xs) = (named at x, field_free at st x, fields_free at st xs)

  arguments_free : (xs : List Word) (ts : Trees) → EveryOf F ts → ThroughoutAssignments F (arguments_assigned xs ts)
  arguments_free [] ts h = tt
  arguments_free (x ∷ xs) no_trees h = tt
  arguments_free (x ∷ xs) (tree t ts) h = (named (root_place t) x, h.0, arguments_free xs ts h.1)

  jump_free : (at : Place) (l : Word) → Holds (jump_written at l)
  jump_free at l = ((named at pc, texted at l, tt), tt)

  module _ (P : Program) where
    abbrev Starts : Routine → List Declaration → Type 0
    Starts p ds = (d : Declaration) → OneOf d ds → Every F (initial_tree P p d.start)

    variables_free : (p : Routine) (ds : List Declaration) (last : Statements) → Starts p ds → Holds last → Holds (variables_written P p (λ d. nowhere) (λ d. initial_tree P p d.start) ds last)
    variables_free p [] last s h = h
    variables_free p (d ∷ ds) last s h = ((named nowhere (written P p d.name.word), s d (inl refl), tt), variables_free p ds last (λ e k. s e (inr k)) h)

    pushed_free : (p : Routine) (at : Place) (back rest : Tree) (kept : Trees) → Every F back → EveryOf F kept → Every F rest → Every F (pushed_on P p at back kept rest)
    pushed_free p at back rest kept h k r = (tt, ((tt, ((tt, (texted at (P.naming.title p.number), (h, k))), tt)), (r, tt)))

    call_free : (p : Routine) (ts : Trees) (back : Word) → Starts p p.variables → EveryOf F ts → Holds (call_written P p nowhere ts back (λ d. nowhere) (λ d. initial_tree P p d.start))
    call_free p ts back s h = (
      (named nowhere stack, pushed_free p nowhere (text_at nowhere back) (name_at nowhere stack) (names_at nowhere (written_all P p (locals p))) (texted nowhere back) (names_free nowhere (written_all P p (locals p))) (named nowhere stack), arguments_free (written_all P p p.params) ts h),
      variables_free p p.variables (jump_written nowhere (label_name P p (first_label p))) s (jump_free nowhere (label_name P p (first_label p))),
    )

    values_free : (u p : Routine) → EveryOf F (values_kept P u p nowhere nowhere)
    values_free u p = by (nat_eq u.number p.number)
      where
        by : (b : Bool) → EveryOf F (cond b (kept_fields nowhere (written_all P u (locals u))) (names_at nowhere (written_all P p (locals p))))
        by true = kept_free nowhere (written_all P u (locals u))
        by false = names_free nowhere (written_all P p (locals p))

    others_free : (u p : Routine) → ThroughoutAssignments F (others_restored P u p nowhere)
    others_free u p = by (nat_eq u.number p.number)
      where
        by : (b : Bool) → ThroughoutAssignments F (cond b no_assignments (fields_of nowhere old_stack (written_all P u (locals u))))
        by true = tt
        by false = fields_free nowhere old_stack (written_all P u (locals u))

    pair_free : (u p : Routine) (ts : Trees) → N old_stack → Starts p p.variables → EveryOf F ts → Holds (pair_written P u p nowhere nowhere ts (λ d. nowhere) (λ d. initial_tree P p d.start))
    pair_free u p ts n s h = (
      (
        (named nowhere stack, n, tt),
        (
          (
            named nowhere stack,
            pushed_free p nowhere (kept_field nowhere pc) (stack_rest nowhere) (values_kept P u p nowhere nowhere) (field_free nowhere stack pc) (values_free u p) (rest_free nowhere),
            arguments_free (written_all P p p.params) ts h,
          ),
          variables_free p p.variables (then (spot nowhere) (assign (others_restored P u p nowhere)) (jump_written nowhere (label_name P p (first_label p)))) s (others_free u p, jump_free nowhere (label_name P p (first_label p))),
        ),
      ),
      tt,
    )

    to_free : (u : Routine) (at : Span) (ts : Trees) (l : Word) (j : Partner) → N old_stack → EveryOf F ts → (o : Option Routine) → ((p : Routine) → o ≡ Some p → Starts p p.variables)
        → Holds (call_to P u (written_initials P) no_jump_places at ts l j o)
    to_free u at ts l j n h None s = (tt, tt)
    to_free u at ts l no_partner n h (Some p) s = call_free p ts (label_name P u l) (s p refl) h
    to_free u at ts l (goto_partner m) n h (Some p) s = call_free p ts (label_name P u m) (s p refl) h
    to_free u at ts l (return_partner end) n h (Some p) s = pair_free u p ts n (s p refl) h

    pub jumps_bind : (u : Routine) → N old_stack → ((x : Word) (p : Routine) → routine_named x (procedure_routines P.algorithm) ≡ Some p → Starts p p.variables)
        → JumpsBind (written_jumps P u (written_initials P) no_jump_places)
    jumps_bind u n s = record {
      goto = λ l. jump_free nowhere (label_name P u l);
      call = λ at p ts l j h. to_free u at ts l j n h (routine_named p.word (procedure_routines P.algorithm)) (λ q e. s p.word q e);
      return = λ at. ((named nowhere pc, field_free nowhere stack pc, restored_free nowhere (written_all P u (locals u)) (one_assignment (name_at nowhere stack) (stack_rest nowhere)) (named nowhere stack, rest_free nowhere, tt)), tt);
    }
