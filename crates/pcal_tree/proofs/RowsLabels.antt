-- Added labels and offences against the rules on labels, tried by computation.
use Rattle.std.proofs.Common.{◌≡◌, ℕ, List, [], ◌∷◌, true, false, codes, Some, refl, map}
use Rattle.std.specs.Fmt.{digits}
use Rattle.tla_token.specs.declared.rule.Rule.TheVariants.{AssignTwice, FirstLabel, UnknownLabel, ReturnOutside, DoubleLabel, LabelInside, WhileLabel, AfterJump, AfterBranch}
use Rattle.tla_tree.specs.declared.op.Op.TheVariants.{Plus, Less, Equal}
use Rattle.tla_tree.specs.Tree.{Word, Trees, no_trees, tree}
use Rattle.pcal_tree.specs.declared.mark.Fairness.TheVariants.{Unfair}
use Rattle.pcal_tree.specs.declared.mark.Mark.TheVariants.{Plain}
use Rattle.pcal_tree.specs.Algorithm.{no_assignments, assignment, no_binds, is, Statement, assign, skip, branch, with, while, goto, macro, return, Statements, done, then, mark, Macro, Procedure, Process, processes, Algorithm}
use Rattle.tla_token.specs.declared.rule.Refusal.{Refusal}
use Rattle.pcal_tree.specs.Offences.{first}
use Rattle.pcal_tree.specs.OffencesLabels.{label_offences}
use Rattle.pcal_tree.specs.Labelled.{labelled}
use Rattle.pcal_tree.proofs.Sample.{at, title, x, y, num, var, item, over, sets, variable, one_body}

-- a statement at a column
abbrev stands : ℕ → Statement → Statements → Statements
stands n st rest = then (record { first = at n; last = at n }) st rest

-- a label at a column
abbrev label : ℕ → Word → Statements → Statements
label n l rest = mark (record { word = l; place = at n }) Plain rest

abbrev alg : List Macro → Statements → Algorithm
alg ms b = (one_body ms b).algorithm

-- x := 1; while x < 3 do x := x + 1; if y = 0 then x := 0; end if; y := y + 1; end while;
abbrev counting : Statements
counting =
    stands 1 (sets (var x) (num 1))
    (stands 2 (while (over Less (var x) (num 3)) (
    stands 3 (sets (var x) (over Plus (var x) (num 1)))
    (stands 4 (branch (over Equal (var y) (num 0)) (stands 5 (sets (var x) (num 0)) done) done)
    (stands 6 (sets (var y) (over Plus (var y) (num 1))) done))))
    done)

-- Lbl_1: x := 1; Lbl_2: while .. do x := x + 1; if .. then Lbl_3: x := 0; end if; Lbl_4: y := y + 1; end while;
abbrev counting_labelled : Statements
counting_labelled =
    label 1 (codes "Lbl_1") (stands 1 (sets (var x) (num 1))
    (label 2 (codes "Lbl_2") (stands 2 (while (over Less (var x) (num 3)) (
    stands 3 (sets (var x) (over Plus (var x) (num 1)))
    (stands 4 (branch (over Equal (var y) (num 0)) (label 5 (codes "Lbl_3") (stands 5 (sets (var x) (num 0)) done)) done)
    (label 6 (codes "Lbl_4") (stands 6 (sets (var y) (over Plus (var y) (num 1))) done)))))
    done)))

four_labels : labelled false (alg [] counting) ≡ alg [] counting_labelled
unfolding digits
four_labels = refl

nothing_missing : label_offences (alg [] counting_labelled) ≡ []
nothing_missing = refl

-- without its label the loop may go round again
missing : label_offences (alg [] counting) ≡ record { rule = FirstLabel; place = at 1 } ∷ record { rule = WhileLabel; place = at 2 } ∷ record { rule = AssignTwice; place = at 3 } ∷ record { rule = AssignTwice; place = at 5 } ∷ record { rule = AssignTwice; place = at 6 } ∷ []
missing = refl

-- A: x := 1; x := 2
abbrev twice : Statements
twice = label 1 (codes "A") (stands 2 (sets (var x) (num 1)) (stands 3 (sets (var x) (num 2)) done))

at_the_second : first (label_offences (alg [] twice)) ≡ Some (record { rule = AssignTwice; place = at 3 })
at_the_second = refl

-- the user typed a label, so none is added unless that is forced
none_added : labelled false (alg [] twice) ≡ alg [] twice
none_added = refl

one_forced : labelled true (alg [] twice) ≡ alg [] (label 1 (codes "A") (stands 2 (sets (var x) (num 1)) (label 3 (codes "Lbl_1") (stands 3 (sets (var x) (num 2)) done))))
unfolding digits
one_forced = refl

-- A: if y = 0 then x := 1; else x := 2; end if
two_paths : label_offences (alg [] (label 1 (codes "A") (stands 2 (branch (over Equal (var y) (num 0)) (stands 3 (sets (var x) (num 1)) done) (stands 4 (sets (var x) (num 2)) done)) done))) ≡ []
two_paths = refl

-- A: if y = 0 then x := 1; else y := 2; end if; y := 3, and with skip for y := 2
abbrev after_branches : Statement → Statements
after_branches st =
    label 3 (codes "A") (stands 6 (branch (over Equal (var y) (num 0)) (stands 20 (sets (var x) (num 1)) done) (stands 33 st done)) (stands 49 (sets (var y) (num 3)) done))

assigned_in_a_branch : label_offences (alg [] (after_branches (sets (var y) (num 2)))) ≡ record { rule = AssignTwice; place = at 49 } ∷ []
assigned_in_a_branch = refl

assigned_in_none : label_offences (alg [] (after_branches skip)) ≡ []
assigned_in_none = refl

-- A: if y = 0 then goto A; end if; skip
after_a_branch_with_a_jump : label_offences (alg [] (label 3 (codes "A") (stands 6 (branch (over Equal (var y) (num 0)) (stands 20 (goto (codes "A")) done) done) (stands 36 skip done)))) ≡ record { rule = AfterBranch; place = at 36 } ∷ []
after_a_branch_with_a_jump = refl

-- A: x[1] := 1 || x[2] := 2
two_parts : label_offences (alg [] (label 1 (codes "A") (stands 2 (assign (assignment (item (var x) (num 1)) (num 1) (assignment (item (var x) (num 2)) (num 2) no_assignments))) done))) ≡ []
two_parts = refl

-- A: x := 1 || x[2] := 2
whole_and_part : label_offences (alg [] (label 1 (codes "A") (stands 2 (assign (assignment (var x) (num 1) (assignment (item (var x) (num 2)) (num 2) no_assignments))) done))) ≡ record { rule = AssignTwice; place = at 2 } ∷ []
whole_and_part = refl

-- macro M(p) begin p := 1; end macro
abbrev setting : List Macro
setting = record { name = title (codes "M"); params = title (codes "p") ∷ []; body = stands 1 (sets (var (codes "p")) (num 1)) done } ∷ []

-- A: M(x); x := 2
through_a_macro : label_offences (alg setting (label 2 (codes "A") (stands 3 (macro (codes "M") (tree (var x) no_trees)) (stands 4 (sets (var x) (num 2)) done)))) ≡ record { rule = AssignTwice; place = at 4 } ∷ []
through_a_macro = refl

-- x := 1; with z = 0 do with w = 0 do x := 2; end with; end with
abbrev nested : Statements → Statements
nested b = stands 2 (with (is (title (codes "z")) (num 0) no_binds) (stands 3 (with (is (title (codes "w")) (num 0) no_binds) b) done)) done

-- the label is before the outer `with`; a number whose name is typed is skipped
before_the_outermost :
    labelled true (alg [] (label 1 (codes "Lbl_1") (stands 1 (sets (var x) (num 1)) (nested (stands 4 (sets (var x) (num 2)) done)))))
    ≡ alg [] (label 1 (codes "Lbl_1") (stands 1 (sets (var x) (num 1)) (label 2 (codes "Lbl_2") (nested (stands 4 (sets (var x) (num 2)) done)))))
unfolding digits
before_the_outermost = refl

-- A: goto B; return; with z = 0 do with w = 0 do A: skip; end with; end with
all_at_once :
    label_offences (alg [] (label 1 (codes "A") (stands 5 (goto (codes "B")) (stands 6 return (nested (label 7 (codes "A") (stands 8 skip done)))))))
    ≡ record { rule = AfterJump; place = at 6 } ∷ record { rule = AfterJump; place = at 2 } ∷ record { rule = UnknownLabel; place = at 5 } ∷ record { rule = ReturnOutside; place = at 6 } ∷ record { rule = LabelInside; place = at 7 } ∷ record { rule = DoubleLabel; place = at 7 } ∷ []
all_at_once = refl

-- procedure P(a = 0) begin A: a := 1; return; end procedure, and processes P and Q without labels
abbrev proc : Procedure
proc = record { name = title (codes "P"); params = variable (codes "a") (num 0) ∷ []; variables = []; body = label 1 (codes "A") (stands 2 (sets (var (codes "a")) (num 1)) (stands 3 return done)) }

abbrev idle : ℕ → Statements → Process
idle n b = record { name = title (codes "Q"); fairness = Unfair; several = false; identity = num n; variables = []; body = b }

abbrev several : Procedure → Statements → Statements → Algorithm
several p a b = record { name = title (codes "Several"); fair = false; globals = variable x (num 0) ∷ []; definitions = []; macros = []; procedures = p ∷ []; main = processes (idle 0 a ∷ idle 1 b ∷ []) }

-- `return` sets the parameters anew, and each process lacks its first label
in_all_bodies :
    label_offences (several proc (stands 4 skip done) (stands 5 skip done))
    ≡ record { rule = AssignTwice; place = at 3 } ∷ record { rule = FirstLabel; place = at 4 } ∷ record { rule = FirstLabel; place = at 5 } ∷ []
in_all_bodies = refl

-- one numbering for all bodies
numbered_through :
    labelled true (several proc (stands 4 skip done) (stands 5 skip done))
    ≡ several (record proc { body = label 1 (codes "A") (stands 2 (sets (var (codes "a")) (num 1)) (label 3 (codes "Lbl_1") (stands 3 return done))) })
    (label 4 (codes "Lbl_2") (stands 4 skip done)) (label 5 (codes "Lbl_3") (stands 5 skip done))
unfolding digits
numbered_through = refl

-- no label is added to processes unless that is forced
none_in_processes : labelled false (several proc (stands 4 skip done) (stands 5 skip done)) ≡ several proc (stands 4 skip done) (stands 5 skip done)
none_in_processes = refl

-- A: while y = 0 do x := 1; end while; x := 2
after_a_loop : label_offences (alg [] (label 1 (codes "A") (stands 2 (while (over Equal (var y) (num 0)) (stands 3 (sets (var x) (num 1)) done)) (stands 4 (sets (var x) (num 2)) done)))) ≡ []
after_a_loop = refl

-- ---- macros

abbrev macro_of : List Word → Statements → Macro
macro_of ps b = record { name = title (codes "M"); params = map title ps; body = b }

abbrev calling : Macro → Trees → Statements → List Refusal
calling d ts rest = label_offences (alg (d ∷ []) (label 2 (codes "A") (stands 3 (macro (codes "M") ts) rest)))

-- A: goto A; x := 2; x := 3
no_path_after_a_jump : label_offences (alg [] (label 1 (codes "A") (stands 2 (goto (codes "A")) (stands 3 (sets (var x) (num 2)) (stands 4 (sets (var x) (num 3)) done))))) ≡ record { rule = AfterJump; place = at 3 } ∷ []
no_path_after_a_jump = refl

-- x := 1; x := 2; goto Lbl_2: an added label may be named
goto_an_added_label : label_offences (labelled false (alg [] (stands 1 (sets (var x) (num 1)) (stands 2 (sets (var x) (num 2)) (stands 3 (goto (codes "Lbl_2")) done))))) ≡ []
unfolding digits
goto_an_added_label = refl

-- macro M() begin while y = 0 do skip; end while; end macro: that it lacks a label is its own offence, not the call's
abbrev looping : Macro
looping = macro_of [] (stands 1 (while (over Equal (var y) (num 0)) (stands 7 skip done)) done)

missing_in_the_macro : calling looping no_trees done ≡ record { rule = WhileLabel; place = at 1 } ∷ record { rule = LabelInside; place = at 1 } ∷ []
missing_in_the_macro = refl

-- macro M() begin x := 1; if y = 0 then x := 2; end if; end macro
abbrev twice_on_a_path : Macro
twice_on_a_path = macro_of [] (stands 1 (sets (var x) (num 1)) (stands 7 (branch (over Equal (var y) (num 0)) (stands 8 (sets (var x) (num 2)) done) done) done))

breaks_at_the_call : calling twice_on_a_path no_trees done ≡ record { rule = AssignTwice; place = at 3 } ∷ []
breaks_at_the_call = refl

-- macro M() begin if y = 0 then x := 1; goto Done; end if; end macro, and then x := 2
abbrev leaving : Macro
leaving = macro_of [] (stands 1 (branch (over Equal (var y) (num 0)) (stands 7 (sets (var x) (num 1)) (stands 8 (goto (codes "Done")) done)) done) done)

assigned_before_a_jump : calling leaving no_trees (stands 4 (sets (var x) (num 2)) done) ≡ record { rule = LabelInside; place = at 8 } ∷ record { rule = AssignTwice; place = at 4 } ∷ []
assigned_before_a_jump = refl

-- macro M() begin N(); x := 1; end macro, with no macro N
abbrev calling_none : Macro
calling_none = macro_of [] (stands 1 (macro (codes "N") no_trees) (stands 7 (sets (var x) (num 1)) done))

unknown_macro_goes_on : calling calling_none no_trees (stands 4 (sets (var x) (num 2)) done) ≡ record { rule = AssignTwice; place = at 4 } ∷ []
unknown_macro_goes_on = refl

-- macro M(p, q) begin p := 0 || q := 0; end macro: M(1, 2), M(x, x)
abbrev setting_two : Macro
setting_two = macro_of (codes "p" ∷ codes "q" ∷ []) (stands 1 (assign (assignment (var (codes "p")) (num 0) (assignment (var (codes "q")) (num 0) no_assignments))) done)

no_variables : calling setting_two (tree (num 1) (tree (num 2) no_trees)) done ≡ []
no_variables = refl

one_variable : calling setting_two (tree (var x) (tree (var x) no_trees)) done ≡ record { rule = AssignTwice; place = at 3 } ∷ []
one_variable = refl

-- macro I() begin p := 1; end macro, macro O(p) begin I(); end macro: the p of I is the parameter of O
abbrev name_of_the_caller : Statements → List Macro
name_of_the_caller b =
    record { name = title (codes "I"); params = []; body = b }
    ∷ record { name = title (codes "O"); params = title (codes "p") ∷ []; body = stands 7 (macro (codes "I") no_trees) done } ∷ []

-- A: O(n); x := 2
abbrev calls_outer : Word → Statements
calls_outer n = stands 3 (macro (codes "O") (tree (var n) no_trees)) (stands 4 (sets (var x) (num 2)) done)

abbrev p_set : List Macro
p_set = name_of_the_caller (stands 1 (sets (var (codes "p")) (num 1)) done)

through_two_macros : label_offences (alg p_set (label 2 (codes "A") (calls_outer x))) ≡ record { rule = AssignTwice; place = at 4 } ∷ []
through_two_macros = refl

another_through_two_macros : label_offences (alg p_set (label 2 (codes "A") (calls_outer y))) ≡ []
another_through_two_macros = refl

-- so a label is added between, and none where another variable is assigned
between_two_macros : labelled false (alg p_set (calls_outer x)) ≡ alg p_set (label 3 (codes "Lbl_1") (stands 3 (macro (codes "O") (tree (var x) no_trees)) (label 4 (codes "Lbl_2") (stands 4 (sets (var x) (num 2)) done))))
unfolding digits
between_two_macros = refl

-- macro I() begin p := 1 || x[1] := 2; end macro: O(x), and O(x[2]), which assigns two parts
abbrev p_and_x_set : List Macro
p_and_x_set = name_of_the_caller (stands 1 (assign (assignment (var (codes "p")) (num 1) (assignment (item (var x) (num 1)) (num 2) no_assignments))) done)

abbrev outer_called : Trees → List Refusal
outer_called ts = label_offences (alg p_and_x_set (label 2 (codes "A") (stands 3 (macro (codes "O") ts) done)))

in_one_statement_of_a_macro : outer_called (tree (var x) no_trees) ≡ record { rule = AssignTwice; place = at 3 } ∷ []
in_one_statement_of_a_macro = refl

two_parts_through_macros : outer_called (tree (item (var x) (num 2)) no_trees) ≡ []
two_parts_through_macros = refl

-- macro M() begin goto B; end macro and macro M() begin return; end macro
jump_in_a_macro : calling (macro_of [] (stands 1 (goto (codes "B")) done)) no_trees done ≡ record { rule = LabelInside; place = at 1 } ∷ record { rule = UnknownLabel; place = at 1 } ∷ []
jump_in_a_macro = refl

return_in_a_macro : calling (macro_of [] (stands 1 return done)) no_trees done ≡ record { rule = LabelInside; place = at 1 } ∷ record { rule = ReturnOutside; place = at 1 } ∷ []
return_in_a_macro = refl
