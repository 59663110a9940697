-- Unknown names, wrong numbers of arguments and names declared twice, tried by computation.
use Rattle.std.proofs.Common.{◌≡◌, ℕ, List, [], ◌∷◌, false, true, codes, Some, refl}
use Rattle.tla_token.specs.declared.rule.Rule.TheVariants.{Unknown, Arity, NotVariable, Duplicate, Reserved, OpaqueUnit}
use Rattle.tla_token.specs.declared.rule.Refusal.{Refusal}
use Rattle.tla_tree.specs.declared.op.Binder.TheVariants.{ForAll}
use Rattle.tla_tree.specs.Tree.{Word, Tree, node, name, operator_call, binding, local, no_trees, tree}
use Rattle.pcal_tree.specs.Algorithm.{no_binds, is, Name, Statement, await, with, macro, call, skip, Statements, done, then, Macro, processes, Algorithm}
use Rattle.pcal_tree.specs.Offences.{first}
use Rattle.tla_value.specs.Outside.{Outside, ReadDefinition}
use Rattle.pcal_tree.specs.OffencesNames.{use_offences_of, repeated_names}
use Rattle.pcal_tree.specs.OffencesReserved.{reserved_declared}
use Rattle.pcal_tree.proofs.Sample.{at, title, x, y, num, sets, labelled, one_body}
use Rattle.pcal_tree.proofs.RowsNames.{counter}

abbrev pub stands : ℕ → Statement → Statements → Statements
stands n st rest = then (record { first = at n; last = at n }) st rest

abbrev pub read : ℕ → Word → Tree
read n w = node (name w) (at n) no_trees

abbrev pub named : ℕ → Word → Name
named n w = record { word = w; place = at n }

abbrev pub q : Word
q = codes "q"

-- the unit `ASSUME Big == ..` was not read
abbrev pub around : Outside
around = record { extended = codes "Sequences" ∷ []; constants = title (codes "N") ∷ []; definitions = []; opaque = record { keyword = codes "ASSUME"; names = codes "Big" ∷ []; place = at 1 } ∷ [] }

abbrev uses : List Macro → Statement → List Refusal
uses ms st = use_offences_of (one_body ms (labelled (codes "A") (stands 2 st done))).algorithm around

unknown_name : uses [] (await (read 3 q)) ≡ record { rule = Unknown; place = at 3 } ∷ []
unknown_name = refl

constant : uses [] (await (read 3 (codes "N"))) ≡ []
constant = refl

not_read : uses [] (await (read 3 (codes "Big"))) ≡ record { rule = OpaqueUnit; place = at 3 } ∷ []
not_read = refl

-- Big := x: no variable, whatever else it is
not_read_on_the_left : uses [] (sets (read 3 (codes "Big")) (read 4 x)) ≡ record { rule = NotVariable; place = at 3 } ∷ []
not_read_on_the_left = refl

-- the unit `Len == ..` was not read: neither Len nor Len(x) is a use of the standard operator
abbrev pub hiding : Outside
hiding = record { extended = []; constants = []; definitions = []; opaque = record { keyword = []; names = codes "Len" ∷ []; place = at 1 } ∷ [] }

hidden_standard_name : use_offences_of (one_body [] (labelled (codes "A") (stands 2 (await (read 3 (codes "Len"))) done))).algorithm hiding ≡ record { rule = OpaqueUnit; place = at 3 } ∷ []
hidden_standard_name = refl

hidden_standard_operator : use_offences_of (one_body [] (labelled (codes "A") (stands 2 (await (node (operator_call (codes "Len")) (at 3) (tree (read 4 x) no_trees))) done))).algorithm hiding ≡ record { rule = OpaqueUnit; place = at 3 } ∷ []
hidden_standard_operator = refl

-- F == .. and then F(a) == ..
abbrev defined_as : List Word → ReadDefinition
defined_as ps = record { definition = record { title = codes "F"; params = ps; body = num 0; outside = true }; place = at 1 }

abbrev defined_again : Outside
defined_again = record { extended = []; constants = []; definitions = defined_as [] ∷ defined_as (codes "a" ∷ []) ∷ []; opaque = [] }

the_later_one_is_seen : use_offences_of (one_body [] (labelled (codes "A") (stands 2 (await (read 3 (codes "F"))) done))).algorithm defined_again ≡ record { rule = Arity; place = at 3 } ∷ []
the_later_one_is_seen = refl

unknown_left : uses [] (sets (read 3 q) (read 4 x)) ≡ record { rule = Unknown; place = at 3 } ∷ record { rule = NotVariable; place = at 3 } ∷ []
unknown_left = refl

-- \A q \in q : q
only_the_set : uses [] (await (node (binding ForAll ((record { word = q; place = at 3 } ∷ []) ∷ [])) (at 3) (tree (read 4 q) (tree (read 5 q) no_trees)))) ≡ record { rule = Unknown; place = at 4 } ∷ []
only_the_set = refl

-- LET x == q q == 1 IN q: a right side sees the names before it
only_those_before : uses [] (await (node (local (record { word = x; place = at 3 } ∷ record { word = q; place = at 5 } ∷ [])) (at 2) (tree (read 4 q) (tree (read 6 x) (tree (read 7 q) no_trees))))) ≡ record { rule = Unknown; place = at 4 } ∷ []
only_those_before = refl

-- Len, and Len(x, y)
arguments : uses [] (await (read 3 (codes "Len"))) ≡ record { rule = Arity; place = at 3 } ∷ []
arguments = refl

too_many : uses [] (await (node (operator_call (codes "Len")) (at 3) (tree (read 4 x) (tree (read 5 y) no_trees)))) ≡ record { rule = Arity; place = at 3 } ∷ []
too_many = refl

no_procedure : uses [] (call (named 3 (codes "P")) no_trees) ≡ record { rule = Unknown; place = at 2 } ∷ []
no_procedure = refl

-- macro M(p) begin await p; await q; end macro
abbrev reading : Macro
reading = record { name = title (codes "M"); params = title (codes "p") ∷ []; body = stands 3 (await (read 4 (codes "p"))) (stands 5 (await (read 6 q)) done) }

-- M(x)
called : uses (reading ∷ []) (macro (codes "M") (tree (read 7 x) no_trees)) ≡ record { rule = Unknown; place = at 6 } ∷ []
called = refl

never_called : uses (reading ∷ []) skip ≡ []
never_called = refl

-- with q = 0 do M(x); end with
where_it_stands : uses (reading ∷ []) (with (is (title q) (num 0) no_binds) (stands 7 (macro (codes "M") (tree (read 8 x) no_trees)) done)) ≡ []
where_it_stands = refl

-- macro K() begin M(0); end macro before M
abbrev too_early : Macro
too_early = record { name = title (codes "K"); params = []; body = stands 9 (macro (codes "M") (tree (num 0) no_trees)) done }

declared_later : uses (too_early ∷ reading ∷ []) (macro (codes "K") no_trees) ≡ record { rule = Unknown; place = at 9 } ∷ []
declared_later = refl

-- macro S() begin p := 1; end macro, macro O(p) begin S(); end macro: O(x), and O(0), whose argument is no variable
abbrev name_of_the_caller : List Macro
name_of_the_caller =
    record { name = title (codes "S"); params = []; body = stands 3 (sets (read 3 (codes "p")) (num 1)) done }
    ∷ record { name = title (codes "O"); params = title (codes "p") ∷ []; body = stands 4 (macro (codes "S") no_trees) done } ∷ []

assigned_for_the_caller : uses name_of_the_caller (macro (codes "O") (tree (read 8 x) no_trees)) ≡ []
assigned_for_the_caller = refl

no_variable_for_the_caller : uses name_of_the_caller (macro (codes "O") (tree (read 8 (codes "N")) no_trees)) ≡ record { rule = NotVariable; place = at 8 } ∷ []
no_variable_for_the_caller = refl

-- S(): p is nothing there
without_the_caller : uses name_of_the_caller (macro (codes "S") no_trees) ≡ record { rule = Unknown; place = at 3 } ∷ record { rule = NotVariable; place = at 3 } ∷ []
without_the_caller = refl

-- of an unknown name at 4 and a wrong number at 3, the lesser rule counts
least_rule : first (uses [] (await (node (operator_call (codes "Len")) (at 3) (tree (read 4 q) (tree (read 5 y) no_trees))))) ≡ Some (record { rule = Unknown; place = at 4 })
least_rule = refl

-- a process B and a process B
abbrev same_twice : Algorithm
same_twice = record { name = title (codes "Two"); fair = false; globals = []; definitions = []; macros = []; procedures = []; main = processes (counter (named 3 (codes "B")) 1 ∷ counter (named 4 (codes "B")) 2 ∷ []) }

second_process : repeated_names same_twice around ≡ record { rule = Duplicate; place = at 4 } ∷ []
second_process = refl

abbrev reserved : Statements → List Refusal
reserved b = reserved_declared (one_body [] b).algorithm around

-- A: with pc = 0 do skip; end with
own_name : reserved (labelled (codes "A") (stands 2 (with (is (named 3 (codes "pc")) (num 0) no_binds) (stands 4 skip done)) done)) ≡ record { rule = Reserved; place = at 3 } ∷ []
own_name = refl

-- Init: skip
label_with_an_own_name : reserved (labelled (codes "Init") (stands 2 skip done)) ≡ []
label_with_an_own_name = refl

-- Done: skip
no_label : reserved (labelled (codes "Done") (stands 2 skip done)) ≡ record { rule = Reserved; place = at 1 } ∷ []
no_label = refl

-- ---- bound names

abbrev awaiting : Tree → Algorithm
awaiting e = (one_body [] (labelled (codes "A") (stands 2 (await e) done))).algorithm

-- \A q \in x, q \in y : q
abbrev bound_twice : Tree
bound_twice = node (binding ForAll ((named 4 q ∷ []) ∷ (named 6 q ∷ []) ∷ [])) (at 3) (tree (read 5 x) (tree (read 7 y) (tree (read 8 q) no_trees)))

twice_in_a_binder : repeated_names (awaiting bound_twice) around ≡ record { rule = Duplicate; place = at 6 } ∷ []
twice_in_a_binder = refl

-- \A q, q \in x : q
twice_in_a_group : repeated_names (awaiting (node (binding ForAll ((named 4 q ∷ named 5 q ∷ []) ∷ [])) (at 3) (tree (read 6 x) (tree (read 7 q) no_trees)))) around
    ≡ record { rule = Duplicate; place = at 5 } ∷ []
twice_in_a_group = refl

-- LET q == 0 q == 1 IN q
twice_in_a_let : repeated_names (awaiting (node (local (named 4 q ∷ named 6 q ∷ [])) (at 3) (tree (num 0) (tree (num 1) (tree (read 7 q) no_trees))))) around
    ≡ record { rule = Duplicate; place = at 6 } ∷ []
twice_in_a_let = refl

-- with q = 0, q = 1 do skip; end with
twice_in_a_with :
    repeated_names (one_body [] (labelled (codes "A") (stands 2 (with (is (named 3 q) (num 0) (is (named 5 q) (num 1) no_binds)) (stands 7 skip done)) done))).algorithm around
    ≡ record { rule = Duplicate; place = at 5 } ∷ []
twice_in_a_with = refl

-- with q = 0 do with q = 1 do skip; end with; end with: an outer form has the name, which another rule refuses
in_two_lists :
    repeated_names (one_body [] (labelled (codes "A") (stands 2 (with (is (named 3 q) (num 0) no_binds) (stands 5 (with (is (named 6 q) (num 1) no_binds) (stands 8 skip done)) done)) done))).algorithm around
    ≡ []
in_two_lists = refl

-- \A pc \in x : Len
own_bound_name : reserved_declared (awaiting (node (binding ForAll ((named 4 (codes "pc") ∷ []) ∷ [])) (at 3) (tree (read 5 x) (tree (read 6 (codes "Len")) no_trees)))) around
    ≡ record { rule = Reserved; place = at 4 } ∷ []
own_bound_name = refl

-- LET Len == 0 IN x
standard_bound_name : reserved_declared (awaiting (node (local (named 4 (codes "Len") ∷ [])) (at 3) (tree (num 0) (tree (read 6 x) no_trees)))) around
    ≡ record { rule = Reserved; place = at 4 } ∷ []
standard_bound_name = refl
