-- Definitions that are used after an assignment, tried by computation.
use Rattle.std.proofs.Common.{◌≡◌, ℕ, zero, suc, List, [], ◌∷◌, ◌++◌, false, true, codes, refl}
use Rattle.tla_token.specs.declared.rule.Rule.TheVariants.{DefinedStale}
use Rattle.tla_token.specs.declared.rule.Refusal.{Refusal}
use Rattle.tla_tree.specs.declared.op.Op.TheVariants.{Plus}
use Rattle.tla_tree.specs.Tree.{Word, Tree, no_trees, tree}
use Rattle.pcal_tree.specs.declared.mark.Fairness.TheVariants.{Unfair}
use Rattle.pcal_tree.specs.Algorithm.{no_assignments, assignment, no_binds, is, assign, await, skip, branch, either, with, while, goto, macro, call, Statements, done, no_branches, or, equals, Macro, Procedure, Process, Main, alone, processes, Algorithm}
use Rattle.pcal_tree.specs.Labelled as labels
use Rattle.pcal_tree.specs.OffencesStale.{stale_offences, stale_offences_by}
use Rattle.pcal_tree.specs.laws.MacroSpots.{spots_by_macros}
use Rattle.pcal_tree.specs.laws.BoundDefinitions.{rebinds_definitions, binds_definitions}
use Rattle.pcal_tree.proofs.Sample.{at, title, x, y, num, over, sets, item, labelled, variable}
use Rattle.pcal_tree.proofs.RowsOffences.{stands, read, named}
use Rattle.pcal_tree.proofs.RowsReads.{D, E, declared_as, three_definitions}

abbrev pub whole : List Macro → List Procedure → Main → Algorithm
whole ms ps m = record {
  name = title (codes "One");
  fair = false;
  globals = variable x (num 0) ∷ variable y (num 0) ∷ [];
  definitions = three_definitions;
  macros = ms;
  procedures = ps;
  main = m;
}

-- x := 1
abbrev pub x_set : Statements → Statements
x_set rest = stands 2 (sets (read 2 x) (num 1)) rest

-- await e
abbrev pub awaits : Tree → Statements
awaits e = stands 3 (await e) done

abbrev body : Statements → List Refusal
body b = stale_offences (whole [] [] (alone (labelled (codes "A") b)))

abbrev pub stale : ℕ → List Refusal
stale n = record { rule = DefinedStale; place = at n } ∷ []

-- ---- uses of definitions after assignments

after_an_assignment : body (x_set (awaits (read 4 D))) ≡ stale 4
after_an_assignment = refl

-- E reads x through D
through_another : body (x_set (awaits (over Plus (num 1) (read 4 E)))) ≡ stale 4
through_another = refl

-- the variable itself has its new value
the_variable_itself : body (x_set (awaits (read 4 x))) ≡ []
the_variable_itself = refl

another_variable : body (stands 2 (sets (read 2 y) (num 1)) (awaits (read 4 D))) ≡ []
another_variable = refl

after_a_label : body (x_set (labelled (codes "B") (awaits (read 4 D)))) ≡ []
after_a_label = refl

-- A: goto A; while 1 do await D; x := 1; either skip; or B: skip; end either; end while: no path leads to the loop, but one begins in it and goes round twice
in_dead_code : body (stands 2 (goto (codes "A")) (stands 3 (while (num 1) (stands 5 (await (read 4 D)) (x_set (
    stands 6 (either (or (stands 7 skip done) (or (labelled (codes "B") (stands 8 skip done)) no_branches))) done)))) done)) ≡ stale 4
in_dead_code = refl

-- x := D || x[D] := D: a statement evaluates before it assigns
in_the_same_statement : body (stands 2 (assign (assignment (read 2 x) (read 3 D) (assignment (item (read 4 x) (read 5 D)) (read 6 D) no_assignments))) done) ≡ []
in_the_same_statement = refl

-- x := 1; y[D] := 2
in_a_subscript : body (x_set (stands 3 (sets (item (read 3 y) (read 4 D)) (num 2)) done)) ≡ stale 4
in_a_subscript = refl

-- if y then x := 1 end if; await D
on_some_path : body (stands 5 (branch (read 5 y) (x_set done) done) (awaits (read 4 D))) ≡ stale 4
on_some_path = refl

-- either x := 1; goto A or skip end either; await D: the path that assigns ends
not_on_this_path : body (stands 5 (either (or (x_set (stands 6 (goto (codes "A")) done)) (or (stands 7 skip done) no_branches))) (awaits (read 4 D))) ≡ []
not_on_this_path = refl

-- while D do x := 1 end while, without a label: round again x has been assigned
round_again : body (stands 1 skip (stands 5 (while (read 4 D) (x_set done)) done)) ≡ stale 4
round_again = refl

-- A: while D do x := 1 end while
with_a_label : body (stands 5 (while (read 4 D) (x_set done)) done) ≡ []
with_a_label = refl

-- x := 1; with D = 0 do await D end with: the bound name is no use of the definition
bound_around : body (x_set (stands 5 (with (is (named 6 D) (num 0) no_binds) (awaits (read 4 D))) done)) ≡ []
bound_around = refl

-- the labels that are added come first: x := 1; x := 2; await D
abbrev unlabelled : Algorithm
unlabelled = whole [] [] (alone (x_set (stands 5 (sets (read 5 x) (num 2)) (awaits (read 4 D)))))

with_added_labels : stale_offences (labels.labelled false unlabelled) ≡ stale 4
with_added_labels = refl

-- ---- macros

-- macro M(p) begin x := 1; await p; await D; end macro
abbrev pub M : Macro
M = record { name = title (codes "M"); params = title (codes "p") ∷ []; body = x_set (stands 10 (await (read 11 (codes "p"))) (stands 12 (await (read 13 D)) done)) }

-- macro N(r) begin M(r); end macro
abbrev pub N : Macro
N = record { name = title (codes "N"); params = title (codes "r") ∷ []; body = stands 20 (macro (codes "M") (tree (read 21 (codes "r")) no_trees)) done }

abbrev pub calls : Word → Tree → Statements → Statements
calls m t rest = stands 30 (macro m (tree t no_trees)) rest

abbrev with_macros : List Macro → Statements → List Refusal
with_macros ms b = stale_offences (whole ms [] (alone (labelled (codes "A") b)))

-- M(1): in the macro's body
in_a_macro : with_macros (M ∷ []) (calls (codes "M") (num 1) done) ≡ stale 13
in_a_macro = refl

-- M(D): in the argument too
in_an_argument : with_macros (M ∷ []) (calls (codes "M") (read 31 D) done) ≡ stale 31 ++ stale 13
in_an_argument = refl

-- N(E): in the outermost argument
in_the_outermost_argument : with_macros (M ∷ N ∷ []) (calls (codes "N") (read 31 E) done) ≡ stale 31 ++ stale 13
in_the_outermost_argument = refl

-- M(1); await D
after_a_call : with_macros (M ∷ []) (calls (codes "M") (num 1) (awaits (read 4 D))) ≡ stale 13 ++ stale 4
after_a_call = refl

never_called : with_macros (M ∷ []) (stands 30 skip done) ≡ []
never_called = refl

-- macro S(p) begin p := 1; await D; end macro: S(x) assigns x
abbrev assigns_its_own : Macro
assigns_its_own = record { name = title (codes "S"); params = title (codes "p") ∷ []; body = stands 10 (sets (read 10 (codes "p")) (num 1)) (stands 12 (await (read 13 D)) done) }

argument_assigned : with_macros (assigns_its_own ∷ []) (calls (codes "S") (read 31 x) done) ≡ stale 13
argument_assigned = refl

another_argument_assigned : with_macros (assigns_its_own ∷ []) (calls (codes "S") (read 31 y) done) ≡ []
another_argument_assigned = refl

-- macro I() begin p := 1; await q; end macro, macro O(p, q) begin I(); end macro: O(x, D), whose p and q are those of I too
abbrev names_of_the_caller : Tree → Algorithm
names_of_the_caller t = whole
    (record { name = title (codes "I"); params = []; body = stands 10 (sets (read 10 (codes "p")) (num 1)) (awaits (read 13 (codes "q"))) }
    ∷ record { name = title (codes "O"); params = title (codes "p") ∷ title (codes "q") ∷ []; body = stands 14 (macro (codes "I") no_trees) done } ∷ []) []
    (alone (labelled (codes "A") (stands 30 (macro (codes "O") (tree t (tree (read 32 D) no_trees))) done)))

through_two_macros : stale_offences (names_of_the_caller (read 31 x)) ≡ stale 32
through_two_macros = refl

through_two_macros_by_macros : stale_offences_by (spots_by_macros (names_of_the_caller (read 31 x))) (names_of_the_caller (read 31 x)) ≡ stale 32
through_two_macros_by_macros = refl

another_through_two_macros : stale_offences (names_of_the_caller (read 31 y)) ≡ []
another_through_two_macros = refl

-- macro L() begin x := 1; B: skip; end macro, and L(); await D: a label in a macro, which another rule refuses, begins a step too
label_in_a_macro :
    with_macros (record { name = title (codes "L"); params = []; body = x_set (labelled (codes "B") (stands 10 skip done)) } ∷ []) (stands 30 (macro (codes "L") no_trees) (awaits (read 4 D))) ≡ []
label_in_a_macro = refl

-- ---- what is computed once for each macro

-- n macros, each of which calls the one before twice, the newest last; the oldest is M
abbrev chain : ℕ → List Macro
chain zero = record M { name = title (0 ∷ []) } ∷ []
chain (suc n) =
    let calls_it = macro (n ∷ []) (tree (read 21 (codes "p")) no_trees) in
    chain n ++ (record { name = title (suc n ∷ []); params = title (codes "p") ∷ []; body = stands 20 calls_it (stands 22 calls_it done) } ∷ [])

-- M12(D)
abbrev chained : Algorithm
chained = whole (chain 12) [] (alone (labelled (codes "A") (calls (12 ∷ []) (read 31 D) done)))

-- written out, M12 would offend 8,192 times
twelve : stale_offences_by (spots_by_macros chained) chained ≡ stale 31 ++ stale 13
twelve = refl

-- what is bound in the macro's body is not left out, so such an algorithm must have none: macro B() begin x := 1; with D = 0 do await D end with; end macro
abbrev pub binds_it : Algorithm
binds_it =
    whole (record { name = title (codes "B"); params = []; body = x_set (stands 10 (with (is (named 11 D) (num 0) no_binds) (stands 12 (await (read 13 D)) done)) done) } ∷ []) []
    (alone (labelled (codes "A") (stands 30 (macro (codes "B") no_trees) done)))

binds_a_definition : rebinds_definitions binds_it ≡ true
binds_a_definition = refl

binds_it_in_its_text : binds_definitions binds_it ≡ true
binds_it_in_its_text = refl

binds_none : rebinds_definitions (whole (M ∷ N ∷ []) [] (alone (labelled (codes "A") (calls (codes "N") (read 31 E) done)))) ≡ false
binds_none = refl

-- ---- calls and jumps

-- procedure R(a = D) variable v = 1
abbrev pub procedure : Tree → Procedure
procedure e = record { name = title (codes "R"); params = declared_as (codes "a") (equals (read 40 D)) ∷ []; variables = declared_as (codes "v") (equals e) ∷ []; body = labelled (codes "B") (stands 41 skip done) }

abbrev calling : Tree → Tree → List Refusal
calling e t = stale_offences (whole [] (procedure e ∷ []) (alone (labelled (codes "A") (x_set (stands 5 (call (named 6 (codes "R")) (tree t no_trees)) done)))))

-- x := 1; call R(1), where v = E: at the call
initial_values : calling (read 42 E) (num 1) ≡ stale 5
initial_values = refl

-- a parameter's initial value is not evaluated at a call, but its argument is: call R(D)
parameters_initial_value : calling (num 1) (num 1) ≡ []
parameters_initial_value = refl

argument_of_a_call : calling (num 1) (read 7 D) ≡ stale 7
argument_of_a_call = refl

abbrev pub process : Tree → Statements → Process
process e b = record { name = title (codes "P"); fairness = Unfair; several = false; identity = e; variables = []; body = labelled (codes "A") b }

-- process P = D begin A: x := 1; goto A; end process: the jump sets `pc` at D
identity_at_a_jump : stale_offences (whole [] [] (processes (process (read 9 D) (x_set (stands 5 (goto (codes "A")) done)) ∷ []))) ≡ stale 9
identity_at_a_jump = refl

-- x := 1; call R(1): so does a call
identity_at_a_call :
    stale_offences (whole [] (procedure (num 1) ∷ []) (processes (process (read 9 D) (x_set (stands 5 (call (named 6 (codes "R")) (tree (num 1) no_trees)) done)) ∷ []))) ≡ stale 9
identity_at_a_call = refl

-- process P \in D: `self` is one of its members
in_a_set : stale_offences (whole [] [] (processes (record (process (read 9 D) (x_set (stands 5 (goto (codes "A")) done))) { several = true } ∷ []))) ≡ []
in_a_set = refl

-- y := self; x := 1; await self
identity_at_self : stale_offences (whole [] [] (processes (process (read 9 D) (stands 5 (sets (read 5 y) (read 6 (codes "self"))) (x_set (awaits (read 7 (codes "self"))))) ∷ []))) ≡ stale 9
identity_at_self = refl
