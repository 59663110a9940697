-- Runs of a uniprocess algorithm, tried by computation.
use Rattle.std.proofs.Common.{◌≡◌, ℕ, List, [], ◌∷◌, codes, Some, None, refl, ◌⊎◌, Ok, Err}
use Rattle.tla_tree.specs.declared.op.Op.TheVariants.{Less, Plus}
use Rattle.tla_tree.specs.Tree.{Word, set_of, strict, node, no_trees, tree, Tree, truth as literal}
use Rattle.tla_value.specs.declared.fault.FaultKind.TheVariants.{NotBoolean, NotInDomain, AssertFailed}
use Rattle.tla_value.specs.Value.{text, Outcome, fault}
use Rattle.tla_value.specs.Order.{seq_from}
use Rattle.pcal_tree.specs.Algorithm.{no_assignments, assignment, assign, await, print, assert, branch, either, with, while, goto, macro, Statement, Statements, done, no_branches, or, one_of, is, no_binds, Macro, Routine, alone_routine}
use Rattle.pcal_tree.specs.Scope.{State, put}
use Rattle.pcal_tree.specs.Run.{Course, Has, run, exit_to}
use Rattle.pcal_tree.specs.Expand.{expanded}
use Rattle.pcal_tree.specs.Choices.{walk, went, wanting, first_trouble}
use Rattle.pcal_tree.specs.Program.{Program, Actor, routine_scope}
use Rattle.pcal_tree.specs.Calls.{rules_of}
use Rattle.pcal_tree.proofs.Sample.{at, title, x, y, num, var, over, item, and_next, sets, labelled, an_int, one_body, at_start}
use Rattle.pcal_tree.specs.Variables.{pc}

-- ---- the courses of a step from label A, the end of which goes to Done

abbrev the_body : Program → Statements → Routine
the_body P ss = alone_routine P.algorithm ss

abbrev the_actor : Program → Statements → Actor
the_actor P ss = record { self = None; own = the_body P ss }

abbrev course_in : Program → Statements → State → Course
course_in P ss s =
    run (rules_of P (the_actor P ss) (the_body P ss)) (codes "A") ss (routine_scope P (the_actor P ss) (the_body P ss))
    (exit_to (rules_of P (the_actor P ss) (the_body P ss)) (codes "Done")) s

abbrev course_from : List Macro → Statements → State → Course
course_from ms ss s = course_in (one_body ms ss) ss s

-- the outcomes, without macros
abbrev outcome : Statements → State → Outcome State → Type 0
outcome ss s r = Has (course_from [] ss s) r

abbrev one : Statement → Statements
one st = and_next st done

-- x = 0, y = 0
abbrev start : State
start = at_start (codes "A")

abbrev ends_at : Word → State → Outcome State
ends_at l s = Ok (put pc (text l) s)

-- ---- assignments

-- x := 1; y := x ends just in x = 1, y = 1
in_order : (r : Outcome State) → outcome (and_next (sets (var x) (num 1)) (one (sets (var y) (var x)))) start r ≡ (r ≡ ends_at (codes "Done") (put y (an_int 1) (put x (an_int 1) start)))
in_order r = refl

abbrev apart : State
apart = put y (an_int 1) start

-- x := y || y := x is the swap
swap : (r : Outcome State) → outcome (one (assign (assignment (var x) (var y) (assignment (var y) (var x) no_assignments)))) apart r ≡ (r ≡ ends_at (codes "Done") (put y (an_int 0) (put x (an_int 1) apart)))
swap r = refl

abbrev triple : State
triple = put x (seq_from (an_int 7 ∷ an_int 8 ∷ an_int 9 ∷ [])) start

-- x[5] := 1 on a triple changes nothing
outside : (r : Outcome State) → outcome (one (sets (item (var x) (num 5)) (num 1))) triple r ≡ (r ≡ ends_at (codes "Done") (put x (triple x) triple))
outside r = refl

-- x[1] := 2 || x[2] := x[1] reads x before it sets parts of it
parts : (r : Outcome State) → outcome (one (assign (assignment (item (var x) (num 1)) (num 2) (assignment (item (var x) (num 2)) (item (var x) (num 1)) no_assignments)))) triple r ≡ (r ≡ ends_at (codes "Done") (put x (seq_from (an_int 2 ∷ an_int 7 ∷ an_int 9 ∷ [])) (put x (seq_from (an_int 2 ∷ an_int 8 ∷ an_int 9 ∷ [])) triple)))
parts r = refl

-- ---- tests and choices

-- a false await has no outcome, nor has a choice from the empty set
held_back : (r : Outcome State) → outcome (one (await (over Less (var x) (num 0)))) start r ≡ ⊥
held_back r = refl

empty_choice : (r : Outcome State) → outcome (one (with (one_of (title (codes "z")) (node (strict set_of) (at 1) no_trees) no_binds) (one (sets (var x) (num 1))))) start r ≡ ⊥
empty_choice r = refl

not_boolean : (r : Outcome State) → outcome (one (await (node (Rattle.tla_tree.specs.Tree.name x) (at 5) no_trees))) start r ≡ (r ≡ Err (fault NotBoolean (at 5)))
not_boolean r = refl

failed : (r : Outcome State) → outcome (one (assert (over Less (var x) (num 0)))) start r ≡ (r ≡ Err (fault AssertFailed (at 1)))
failed r = refl

-- either x := 1 or y := 1
abbrev two_ways : Statements
two_ways = one (either (or (one (sets (var x) (num 1))) (or (one (sets (var y) (num 1))) no_branches)))

both : (r : Outcome State) → outcome two_ways start r ≡ ((r ≡ ends_at (codes "Done") (put x (an_int 1) start)) ⊎ ((r ≡ ends_at (codes "Done") (put y (an_int 1) start)) ⊎ ⊥))
both r = refl

-- the choice 2 takes the second; without a choice two courses are to choose from
second : walk (course_from [] two_ways start) (2 ∷ []) ≡ went (put pc (text (codes "Done")) (put y (an_int 1) start)) []
second = refl

no_choice : walk (course_from [] two_ways start) [] ≡ wanting 2 (at 1)
no_choice = refl

third : walk (course_from [] two_ways start) (3 ∷ []) ≡ wanting 2 (at 1)
third = refl

-- with z \in {2, 3}, w = z do x := w end with
each_member : (r : Outcome State) → outcome (one (with (one_of (title (codes "z")) (node (strict set_of) (at 1) (tree (num 3) (tree (num 2) no_trees))) (is (title (codes "w")) (var (codes "z")) no_binds)) (one (sets (var x) (var (codes "w")))))) start r ≡ ((r ≡ ends_at (codes "Done") (put x (an_int 2) start)) ⊎ ((r ≡ ends_at (codes "Done") (put x (an_int 3) start)) ⊎ ⊥))
each_member r = refl

-- the first trouble is that of the least list of choices, whatever may be chosen after it
first_failed : first_trouble (course_from [] (and_next (either (or (one (sets (var x) (num 1))) (or (one (await (var y))) no_branches))) (one (assert (over Less (var x) (num 1))))) start) ≡ Some (fault AssertFailed (at 1))
first_failed = refl

-- ---- labels and loops

-- if x < 1 then B: y := 1 else skip: the label ends the step
at_label : (r : Outcome State) → outcome (one (branch (over Less (var x) (num 1)) (labelled (codes "B") (one (sets (var y) (num 1)))) done)) start r ≡ (r ≡ ends_at (codes "B") start)
at_label r = refl

-- a goto drops what follows
dropped : (r : Outcome State) → outcome (and_next (goto (codes "C")) (one (sets (var x) (num 1)))) start r ≡ (r ≡ ends_at (codes "C") start)
dropped r = refl

-- A: while x < k do x := x + 1 end while; y := 9
abbrev counting : ℕ → Statements
counting k = and_next (while (over Less (var x) (num k)) (one (sets (var x) (over Plus (var x) (num 1))))) (one (sets (var y) (num 9)))

again : (r : Outcome State) → outcome (counting 1) start r ≡ (r ≡ ends_at (codes "A") (put x (an_int 1) start))
again r = refl

behind : (r : Outcome State) → outcome (counting 0) start r ≡ (r ≡ ends_at (codes "Done") (put y (an_int 9) start))
behind r = refl

-- ---- macros

-- macro M(p) begin y := 2; p := p + 1; end macro
abbrev bump : Macro
bump = record {
  name = title (codes "M");
  params = title (codes "p") ∷ [];
  body = and_next (sets (var y) (num 2)) (one (sets (var (codes "p")) (over Plus (var (codes "p")) (num 1))));
}

-- M(x[y]) on y = 1: the argument is read anew, so the second part changes
read_anew : (r : Outcome State) → Has (course_from (bump ∷ []) (one (macro (codes "M") (tree (item (var x) (var y)) no_trees))) (put y (an_int 1) triple)) r ≡ (r ≡ ends_at (codes "Done") (put x (seq_from (an_int 7 ∷ an_int 9 ∷ an_int 9 ∷ [])) (put y (an_int 2) (put y (an_int 1) triple))))
read_anew r = refl

-- macro N(p) begin await p; end macro, called with x: the place is the argument's
abbrev waits : Macro
waits = record { name = title (codes "N"); params = title (codes "p") ∷ []; body = one (await (var (codes "p"))) }

at_argument : (r : Outcome State) → Has (course_from (waits ∷ []) (one (macro (codes "N") (tree (node (Rattle.tla_tree.specs.Tree.name x) (at 8) no_trees) no_trees))) start) r ≡ (r ≡ Err (fault NotBoolean (at 8)))
at_argument r = refl

-- the expansion of M(x[y]) takes the same course
expanded_anew : course_from (bump ∷ []) (one (macro (codes "M") (tree (item (var x) (var y)) no_trees))) (put y (an_int 1) triple) ≡ course_from [] (expanded (bump ∷ []) (one (macro (codes "M") (tree (item (var x) (var y)) no_trees)))) (put y (an_int 1) triple)
expanded_anew = refl

-- what is printed is evaluated
printed : (r : Outcome State) → outcome (one (print (item (var x) (num 5)))) triple r ≡ (r ≡ Err (fault NotInDomain (at 1)))
printed r = refl
