-- A call that is one statement with the `return` or `goto` after it, tried by computation.
use Rattle.std.proofs.Common.{◌≡◌, ℕ, zero, suc, List, [], ◌∷◌, true, false, codes, Option, Some, None, map, refl, Ok, Err}
use Rattle.std.specs.Fmt.{digits}
use Rattle.tla_token.specs.declared.rule.Rule.TheVariants.{AfterJump, AssignTwice}
use Rattle.tla_tree.specs.declared.op.Op.TheVariants.{Plus, Minus, Greater}
use Rattle.tla_tree.specs.Tree.{Word, Tree, Trees, no_trees, tree}
use Rattle.tla_value.specs.declared.fault.FaultKind.TheVariants.{EmptySequence}
use Rattle.tla_value.specs.Value.{Value, text, truth, Trouble, Outcome, fault}
use Rattle.tla_value.specs.Stops.{plain}
use Rattle.tla_value.specs.Order.{seq_from, record_from}
use Rattle.pcal_tree.specs.declared.mark.Mark.TheVariants.{Plain}
use Rattle.pcal_tree.specs.Algorithm.{Statement, branch, call, goto, return, skip, Statements, done, then, mark, Declaration, Procedure, alone, Algorithm, alone_routine}
use Rattle.pcal_tree.specs.Scope.{State, put}
use Rattle.pcal_tree.specs.Run.{Course, ends, stops}
use Rattle.pcal_tree.specs.Program.{Program, Actor}
use Rattle.pcal_tree.specs.Variables.{pc, stack}
use Rattle.pcal_tree.specs.Step.{pc_of, Stand, course_of, routines_of}
use Rattle.pcal_tree.specs.FirstTrouble.{stand_named}
use Rattle.pcal_tree.specs.OffencesLabels.{label_offences}
use Rattle.pcal_tree.specs.Labelled.{labelled as with_labels}
use Rattle.pcal_tree.proofs.Sample.{at, title, num, var, over, sets, labelled, an_int, variable}

-- a statement at a column, and a label
abbrev stands : ℕ → Statement → Statements → Statements
stands n st rest = then (record { first = at n; last = at n }) st rest

abbrev label : ℕ → Word → Statements → Statements
label n l rest = mark (record { word = l; place = at n }) Plain rest

abbrev to_call : Word → Trees → Statement
to_call p ts = call (title p) ts

abbrev one_tree : Tree → Trees
one_tree t = tree t no_trees

abbrev procedure : Word → List Declaration → Statements → Procedure
procedure p ds b = record { name = title p; params = ds; variables = []; body = b }

-- a uniprocess algorithm with r = 0, these procedures and this body
abbrev alg : List Procedure → Statements → Algorithm
alg ps b = record { name = title (codes "One"); fair = false; globals = variable (codes "r") (num 0) ∷ []; definitions = []; macros = []; procedures = ps; main = alone b }

abbrev program : Algorithm → Program
program a = record { check = plain; constants = λ w. None; outside = []; algorithm = a; naming = record { local = λ n w. w; label = λ n l. l; title = λ n. codes "P" } }

abbrev the_actor : List Procedure → Statements → Actor
the_actor ps b = record { self = None; own = alone_routine (alg ps b) b }

-- ---- steps

-- values of all that may be a variable here: r, n, the stack, pc and m
abbrev begun : Value → Word → State
begun st l = put pc (text l) (put stack st (put (codes "n") (an_int 0) (put (codes "m") (an_int 0) (put (codes "r") (an_int 0) (λ w. truth false)))))

abbrev from_stand : Program → Actor → Option Stand → State → Course
from_stand P v None s = ends s
from_stand P v (Some d) s = course_of P v d s

abbrev from_pc : Program → Actor → Outcome Value → State → Course
from_pc P v (Err k) s = stops k
from_pc P v (Ok w) s = from_stand P v (stand_named P w (routines_of P v)) s

abbrev step_of : List Procedure → Statements → State → Course
step_of ps b s = from_pc (program (alg ps b)) (the_actor ps b) (pc_of (the_actor ps b) s) s

-- so many steps
abbrev steps : List Procedure → Statements → ℕ → Course → Course
steps ps b zero c = c
steps ps b (suc k) (ends s) = steps ps b k (step_of ps b s)
steps ps b (suc k) c = c

abbrev values : List Word → Course → List Value
values xs (ends s) = map s xs
values xs _ = []

abbrev record_of : List Word → Word → List Value → Value
record_of xs l vs = record_from (codes "procedure" ∷ pc ∷ xs) (text (codes "P") ∷ text l ∷ vs)

abbrev of_n : List Word
of_n = codes "n" ∷ []

-- procedure Add(n = 0) begin P: r := r + n; if n > 0 then call Add(n - 1); return; else return; end if; end procedure
abbrev add : Procedure
add =
    procedure (codes "Add") (variable (codes "n") (num 0) ∷ []) (labelled (codes "P") (
    stands 1 (sets (var (codes "r")) (over Plus (var (codes "r")) (var (codes "n"))))
    (stands 2 (branch (over Greater (var (codes "n")) (num 0)) (
    stands 3 (to_call (codes "Add") (one_tree (over Minus (var (codes "n")) (num 1)))) (stands 4 return done)) (stands 5 return done)) done)))

-- A: call Add(2)
abbrev add_two : Statements
add_two = labelled (codes "A") (stands 1 (to_call (codes "Add") (one_tree (num 2))) done)

abbrev added : ℕ → List Value
added k = values (codes "r" ∷ codes "n" ∷ stack ∷ pc ∷ []) (steps (add ∷ []) add_two k (ends (begun (seq_from []) (codes "A"))))

-- never more than one record, with the old value of n
abbrev one_record : Value
one_record = seq_from (record_of of_n (codes "Done") (an_int 0 ∷ []) ∷ [])

first_called : added 1 ≡ an_int 0 ∷ an_int 2 ∷ one_record ∷ text (codes "P") ∷ []
first_called = refl

called_again : added 2 ≡ an_int 2 ∷ an_int 1 ∷ one_record ∷ text (codes "P") ∷ []
called_again = refl

called_last : added 3 ≡ an_int 3 ∷ an_int 0 ∷ one_record ∷ text (codes "P") ∷ []
called_last = refl

all_added : added 4 ≡ an_int 3 ∷ an_int 0 ∷ seq_from [] ∷ text (codes "Done") ∷ []
all_added = refl

-- procedure Z() begin B: return; end procedure, and A: call Z(); goto A
abbrev zed : Procedure
zed = procedure (codes "Z") [] (labelled (codes "B") (stands 1 return done))

abbrev again : Statements
again = labelled (codes "A") (stands 1 (to_call (codes "Z") no_trees) (stands 2 (goto (codes "A")) done))

goes_back : values (stack ∷ pc ∷ []) (step_of (zed ∷ []) again (begun (seq_from []) (codes "A"))) ≡ seq_from (record_of [] (codes "A") [] ∷ []) ∷ text (codes "B") ∷ []
goes_back = refl

-- a labelled `return` is no partner: procedure Q(m = 0) begin D: call Z(); E: return; end procedure keeps E
abbrev labelled_return : Procedure
labelled_return = procedure (codes "Q") (variable (codes "m") (num 0) ∷ []) (labelled (codes "D") (stands 1 (to_call (codes "Z") no_trees) (label 2 (codes "E") (stands 3 return done))))

abbrev held : Value
held = record_of (codes "m" ∷ []) (codes "Done") (an_int 7 ∷ [])

keeps_the_label : values (codes "m" ∷ stack ∷ pc ∷ []) (step_of (zed ∷ labelled_return ∷ []) add_two (begun (seq_from (held ∷ [])) (codes "D")))
    ≡ an_int 0 ∷ seq_from (record_of [] (codes "E") [] ∷ held ∷ []) ∷ text (codes "B") ∷ []
keeps_the_label = refl

-- procedure Q(m = 0) begin D: call R(m + 1); return; end procedure and procedure R(n = 0) begin E: call Q(n + 1); return; end procedure:
-- m has its old value again, and n is kept
abbrev calls_the_other : Word → Word → Word → Word → Procedure
calls_the_other p x l other =
    procedure p (variable x (num 0) ∷ []) (labelled l (stands 1 (to_call other (one_tree (over Plus (var x) (num 1)))) (stands 9 return done)))

abbrev both : List Procedure
both = calls_the_other (codes "Q") (codes "m") (codes "D") (codes "R") ∷ calls_the_other (codes "R") (codes "n") (codes "E") (codes "Q") ∷ []

abbrev between : State
between = begun (seq_from (held ∷ held ∷ [])) (codes "D")

by_turns : values (codes "m" ∷ codes "n" ∷ stack ∷ pc ∷ []) (step_of both add_two between)
    ≡ an_int 7 ∷ an_int 1 ∷ seq_from (record_of of_n (codes "Done") (an_int 0 ∷ []) ∷ held ∷ []) ∷ text (codes "E") ∷ []
by_turns = refl

and_back : values (codes "m" ∷ codes "n" ∷ stack ∷ pc ∷ []) (steps both add_two 2 (ends between))
    ≡ an_int 2 ∷ an_int 0 ∷ seq_from (record_of (codes "m" ∷ []) (codes "Done") (an_int 7 ∷ []) ∷ held ∷ []) ∷ text (codes "D") ∷ []
and_back = refl

-- without a record the fault is at the `return`
abbrev trouble_in : Course → Option Trouble
trouble_in (stops k) = Some k
trouble_in _ = None

no_record : trouble_in (step_of both add_two (begun (seq_from []) (codes "D"))) ≡ Some (fault EmptySequence (at 9))
no_record = refl

-- ---- labels, and what is assigned twice

abbrev body_of : Statements → Procedure
body_of b = procedure (codes "Q") (variable (codes "n") (num 0) ∷ []) (label 1 (codes "D") b)

abbrev empty_body : Statements
empty_body = labelled (codes "A") (stands 1 skip done)

abbrev in_body : Statements → Algorithm
in_body b = alg (zed ∷ body_of b ∷ []) empty_body

-- call Z(); return; skip
after_a_pair : label_offences (in_body (stands 2 (to_call (codes "Z") no_trees) (stands 3 return (stands 4 skip done)))) ≡ record { rule = AfterJump; place = at 4 } ∷ []
after_a_pair = refl

-- call Z(); skip
after_a_call : label_offences (in_body (stands 2 (to_call (codes "Z") no_trees) (stands 3 skip done))) ≡ record { rule = AfterJump; place = at 3 } ∷ []
after_a_call = refl

-- goto D; return
after_a_goto : label_offences (in_body (stands 2 (goto (codes "D")) (stands 3 return done))) ≡ record { rule = AfterJump; place = at 3 } ∷ []
after_a_goto = refl

-- n := 1; call Z(); return assigns n once more
pair_assigns : label_offences (in_body (stands 2 (sets (var (codes "n")) (num 1)) (stands 3 (to_call (codes "Z") no_trees) (stands 4 return done)))) ≡ record { rule = AssignTwice; place = at 3 } ∷ []
pair_assigns = refl

-- n := 1; call Z(); goto D doesn't
goto_assigns_nothing : label_offences (in_body (stands 2 (sets (var (codes "n")) (num 1)) (stands 3 (to_call (codes "Z") no_trees) (stands 4 (goto (codes "D")) done)))) ≡ []
goto_assigns_nothing = refl

-- n := 1; call Q(2); goto D does
goto_assigns_its_own : label_offences (in_body (stands 2 (sets (var (codes "n")) (num 1)) (stands 3 (to_call (codes "Q") (one_tree (num 2))) (stands 4 (goto (codes "D")) done)))) ≡ record { rule = AssignTwice; place = at 3 } ∷ []
goto_assigns_its_own = refl

-- call Q(n); return assigns each once
own_pair : label_offences (in_body (stands 2 (to_call (codes "Q") (one_tree (var (codes "n")))) (stands 3 return done))) ≡ []
own_pair = refl

-- the label that is added after a pair
pair_labelled : with_labels true (in_body (stands 2 (to_call (codes "Z") no_trees) (stands 3 return (stands 4 skip done))))
    ≡ in_body (stands 2 (to_call (codes "Z") no_trees) (stands 3 return (label 4 (codes "Lbl_1") (stands 4 skip done))))
unfolding digits
pair_labelled = refl
