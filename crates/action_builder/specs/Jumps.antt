-- The assignments that are written for jumps and returns, and for calls ("A PlusCal User's Manual", sections 3.2.9 and 3.4).
use Rattle.std.specs.Prelude.{List, [], ◌∷◌, codes, nat_eq, cond, Some, Option, None}
use Rattle.tla_token.specs.declared.place.Place.{Place}
use Rattle.tla_tree.specs.declared.op.Op.TheVariants.{Concat}
use Rattle.tla_tree.specs.Tree.{Word, string, name, operator_call, strict, operator, tuple, fields, select, Tree, node, Trees, no_trees, tree, root_place}
use Rattle.pcal_tree.specs.Algorithm.{Span, Declaration, Routine, locals, Assignments, no_assignments, assignment, no_binds, is, with, Statements, done, then, assign, procedure_routines, either, no_branches}
use Rattle.pcal_tree.specs.Run.{Partner, no_partner, goto_partner, return_partner}
use Rattle.pcal_tree.specs.Program.{Program, written}
use Rattle.pcal_tree.specs.Calls.{label_name, first_label, frame_fields, routine_named}
use Rattle.action_builder.specs.Settled.{WrittenJumps}
use Rattle.action_builder.specs.Written.{old_stack}
use Rattle.pcal_tree.specs.Variables.{written_all, pc, stack}

abbrev pub name_at : Place → Word → Tree
name_at at x = node (name x) at no_trees

abbrev pub text_at : Place → Word → Tree
text_at at w = node (string w) at no_trees

abbrev pub one_assignment : Tree → Tree → Assignments
one_assignment l e = assignment l e no_assignments

abbrev pub spot : Place → Span
spot at = record { first = at; last = at }

-- ---- a jump

-- pc := "L"
abbrev pub jump_written : Place → Word → Statements
jump_written at l = then (spot at) (assign (one_assignment (name_at at pc) (text_at at l))) done

-- ---- a return

-- Head(st).x, where the stack has the name st
abbrev pub field_of : Place → Word → Word → Tree
field_of at st x = node (strict (select x)) at (tree (node (operator_call (codes "Head")) at (tree (name_at at st) no_trees)) no_trees)

abbrev pub kept_field : Place → Word → Tree
kept_field at x = field_of at stack x

-- Tail(stack)
abbrev pub stack_rest : Place → Tree
stack_rest at = node (operator_call (codes "Tail")) at (tree (name_at at stack) no_trees)

-- x := Head(stack).x for each name, before other assignments
abbrev pub fields_restored : Place → List Word → Assignments → Assignments
fields_restored at [] last = last
fields_restored at (x ∷ xs) last = assignment (name_at at x) (kept_field at x) (fields_restored at xs last)

-- pc, the procedure's parameters and variables, and the stack, in one assignment
abbrev pub return_assignments : Program → Routine → Place → Assignments
return_assignments P p at =
    assignment (name_at at pc) (kept_field at pc) (fields_restored at (written_all P p (locals p)) (one_assignment (name_at at stack) (stack_rest at)))

abbrev pub return_written : Program → Routine → Place → Statements
return_written P p at = then (spot at) (assign (return_assignments P p at)) done

-- ---- a call

abbrev pub names_at : Place → List Word → Trees
names_at at [] = no_trees
names_at at (x ∷ xs) = tree (name_at at x) (names_at at xs)

-- <<[procedure |-> "P", pc |-> back, x |-> kept, ..]>> \o rest
abbrev pub pushed_on : Program → Routine → Place → Tree → Trees → Tree → Tree
pushed_on P p at back kept rest =
    node (strict (operator Concat)) at (tree
    (node (strict tuple) at (tree (node (strict (fields (frame_fields P p))) at (tree (text_at at (P.naming.title p.number)) (tree back kept))) no_trees))
    (tree rest no_trees))

-- <<[procedure |-> "P", pc |-> "L", x |-> x, ..]>> \o stack
abbrev pub stack_pushed : Program → Routine → Place → Word → Tree
stack_pushed P p at back = pushed_on P p at (text_at at back) (names_at at (written_all P p (locals p))) (name_at at stack)

-- a parameter for each argument, at the argument's place
abbrev pub arguments_assigned : List Word → Trees → Assignments
arguments_assigned (x ∷ xs) (tree t ts) = assignment (name_at (root_place t) x) t (arguments_assigned xs ts)
arguments_assigned _ _ = no_assignments

-- the procedure's variables with their written initial values, in order
abbrev pub variables_written : Program → Routine → (Declaration → Place) → (Declaration → Tree) → List Declaration → Statements → Statements
variables_written P p place initial [] last = last
variables_written P p place initial (d ∷ ds) last =
    then (spot (place d)) (assign (one_assignment (name_at (place d) (written P p d.name.word)) (initial d))) (variables_written P p place initial ds last)

-- the stack and the parameters in one assignment, then the variables, then pc
abbrev pub call_written : Program → Routine → Place → Trees → Word → (Declaration → Place) → (Declaration → Tree) → Statements
call_written P p at ts back place initial =
    then (spot at) (assign (assignment (name_at at stack) (stack_pushed P p at back) (arguments_assigned (written_all P p p.params) ts)))
    (variables_written P p place initial p.variables (jump_written at (label_name P p (first_label p))))

-- ---- a call that is one statement with a return

abbrev pub kept_fields : Place → List Word → Trees
kept_fields at [] = no_trees
kept_fields at (x ∷ xs) = tree (kept_field at x) (kept_fields at xs)

-- the values that the record keeps: where p is the returning procedure u itself, those of the record that is taken off
abbrev pub values_kept : Program → Routine → Routine → Place → Place → Trees
values_kept P u p at end = cond (nat_eq u.number p.number) (kept_fields end (written_all P u (locals u))) (names_at at (written_all P p (locals p)))

-- <<[procedure |-> "P", pc |-> Head(stack).pc, x |-> .., ..]>> \o Tail(stack)
abbrev pub stack_replaced : Program → Routine → Routine → Place → Place → Tree
stack_replaced P u p at end = pushed_on P p at (kept_field end pc) (values_kept P u p at end) (stack_rest end)

-- x := Head(st).x for each name
abbrev pub fields_of : Place → Word → List Word → Assignments
fields_of at st [] = no_assignments
fields_of at st (x ∷ xs) = assignment (name_at at x) (field_of at st x) (fields_of at st xs)

-- what the return restores from the old stack, where p is another procedure
abbrev pub others_restored : Program → Routine → Routine → Place → Assignments
others_restored P u p end = cond (nat_eq u.number p.number) no_assignments (fields_of end old_stack (written_all P u (locals u)))

-- the stack and the parameters of p in one assignment, then the variables of p, then what the return restores, then pc
abbrev pub pair_body : Program → Routine → Routine → Place → Place → Trees → (Declaration → Place) → (Declaration → Tree) → Statements
pair_body P u p at end ts place initial =
    then (spot at) (assign (assignment (name_at at stack) (stack_replaced P u p at end) (arguments_assigned (written_all P p p.params) ts)))
    (variables_written P p place initial p.variables (then (spot end) (assign (others_restored P u p end)) (jump_written at (label_name P p (first_label p)))))

-- all in a step that still knows the old stack
abbrev pub pair_written : Program → Routine → Routine → Place → Place → Trees → (Declaration → Place) → (Declaration → Tree) → Statements
pair_written P u p at end ts place initial =
    then (spot end) (with (is (record { word = old_stack; place = end }) (name_at end stack) no_binds) (pair_body P u p at end ts place initial)) done

-- ---- of a routine

-- the written initial values of a procedure's variables, and their places
pub record InitialValues : Type 0 where
  pub place : Routine → Declaration → Place
  pub initial : Routine → Declaration → Tree

-- where jumps, calls and returns are written
pub record JumpPlaces : Type 0 where
  pub goto : Place
  pub call : Span → Place
  pub return : Span → Place

-- a call of p in the routine u
abbrev pub call_with : Program → Routine → InitialValues → JumpPlaces → Span → Trees → Word → Partner → Routine → Statements
call_with P u I places at ts l no_partner p = call_written P p (places.call at) ts (label_name P u l) (I.place p) (I.initial p)
call_with P u I places at ts l (goto_partner m) p = call_written P p (places.call at) ts (label_name P u m) (I.place p) (I.initial p)
call_with P u I places at ts l (return_partner end) p = pair_written P u p (places.call at) (places.return end) ts (I.place p) (I.initial p)

-- a call of no procedure can't be taken
abbrev pub call_to : Program → Routine → InitialValues → JumpPlaces → Span → Trees → Word → Partner → Option Routine → Statements
call_to P u I places at ts l j None = then (spot (places.call at)) (either no_branches) done
call_to P u I places at ts l j (Some p) = call_with P u I places at ts l j p

-- they are the same for all processes
abbrev pub written_jumps : Program → Routine → InitialValues → JumpPlaces → WrittenJumps
written_jumps P u I places = record {
  goto = λ l. jump_written places.goto (label_name P u l);
  call = λ at p ts l j. call_to P u I places at ts l j (routine_named p.word (procedure_routines P.algorithm));
  return = λ at. return_written P u (places.return at);
}
