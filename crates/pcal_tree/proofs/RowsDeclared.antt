-- Names declared twice, reserved names where they are declared, and names that are used with a wrong number of arguments, tried by computation.
use Rattle.std.proofs.Common.{◌≡◌, ℕ, List, [], ◌∷◌, true, false, Some, codes, refl}
use Rattle.tla_token.specs.declared.rule.Rule.{Rule}
use Rattle.tla_token.specs.declared.rule.Rule.TheVariants.{Unknown, Duplicate, Reserved, Arity, OpaqueUnit}
use Rattle.tla_token.specs.declared.rule.Refusal.{Refusal}
use Rattle.tla_tree.specs.Tree.{Word, Tree, node, operator_call, no_trees, tree}
use Rattle.tla_value.specs.Outside.{Outside}
use Rattle.pcal_tree.specs.declared.mark.Fairness.TheVariants.{Unfair}
use Rattle.pcal_tree.specs.Algorithm.{no_binds, is, Statement, await, with, call, macro, skip, done, unset, Macro, Procedure, alone, processes, Algorithm}
use Rattle.pcal_tree.specs.NameUses.{takes, use_of}
use Rattle.pcal_tree.specs.OffencesNames.{sight_inside, use_offences_of, repeated_names}
use Rattle.pcal_tree.specs.OffencesReserved.{reserved_declared}
use Rattle.pcal_tree.proofs.Sample.{at, title, x, y, num, sets, labelled, one_body}
use Rattle.pcal_tree.proofs.RowsOffences.{stands, read, named, q, around}

abbrev one : Rule → ℕ → List Refusal
one r n = record { rule = r; place = at n } ∷ []

-- a global, a definition, a macro, a procedure and a process, with these names at places 1 to 5
abbrev with_names : Word → Word → Word → Word → Word → Algorithm
with_names g d m p q = record {
  name = title g;
  fair = false;
  globals = record { name = named 1 g; start = unset } ∷ [];
  definitions = record { name = named 2 d; params = []; body = num 0 } ∷ [];
  macros = record { name = named 3 m; params = []; body = stands 9 skip done } ∷ [];
  procedures = record { name = named 4 p; params = []; variables = []; body = stands 9 skip done } ∷ [];
  main = processes (record { name = named 5 q; fairness = Unfair; several = false; identity = num 0; variables = []; body = stands 9 skip done } ∷ []);
}

abbrev a : Word
a = codes "a"

abbrev b : Word
b = codes "b"

abbrev c : Word
c = codes "c"

abbrev d : Word
d = codes "d"

-- ---- declared twice

global_and_definition : repeated_names (with_names a a b c d) around ≡ one Duplicate 2
global_and_definition = refl

definition_and_macro : repeated_names (with_names a b b c d) around ≡ one Duplicate 3
definition_and_macro = refl

global_and_procedure : repeated_names (with_names a b c a d) around ≡ one Duplicate 4
global_and_procedure = refl

procedure_and_process : repeated_names (with_names a b c d d) around ≡ one Duplicate 5
procedure_and_process = refl

-- of two definitions of one name the later is seen, in how it may be used as in what it means
later_of_two : use_of (sight_inside (record (with_names a b b c d) { definitions = record { name = named 2 b; params = []; body = num 0 } ∷ record { name = named 3 b; params = named 4 c ∷ []; body = num 0 } ∷ [] }) around) b ≡ Some (takes 1)
later_of_two = refl

-- a global or a definition named as a constant, or as a unit that was not read; a procedure or process may be
as_a_constant : repeated_names (with_names (codes "N") (codes "Big") b c d) around ≡ record { rule = Duplicate; place = at 1 } ∷ record { rule = Duplicate; place = at 2 } ∷ []
as_a_constant = refl

procedure_as_a_constant : repeated_names (with_names a b c (codes "N") (codes "Big")) around ≡ []
procedure_as_a_constant = refl

-- a parameter and a variable of one procedure
abbrev alike : Procedure
alike = record {
  name = title (codes "f");
  params = record { name = named 3 c; start = unset } ∷ [];
  variables = record { name = named 4 c; start = unset } ∷ [];
  body = stands 9 skip done;
}

in_one_unit : repeated_names (record (with_names a b c d (codes "e")) { procedures = alike ∷ [] }) around ≡ one Duplicate 4
in_one_unit = refl

-- ---- reserved names

own_macro : reserved_declared (with_names a b (codes "Next") c d) around ≡ one Reserved 3
own_macro = refl

standard_process : reserved_declared (with_names a b c d (codes "Len")) around ≡ one Reserved 5
standard_process = refl

-- SelectSeq is a standard name where Sequences is extended, Print where TLC is
where_extended : reserved_declared (with_names (codes "Print") (codes "SelectSeq") a b c) around ≡ one Reserved 2
where_extended = refl

-- the name of the algorithm may be any
of_the_algorithm : reserved_declared (record (with_names a b (codes "M") c d) { name = named 1 (codes "Init") }) around ≡ []
of_the_algorithm = refl

-- a constant Nat, a definition pc, and units that were not read: `Spec == ..` and `Len == ..`
abbrev outside : Outside
outside = record {
  extended = [];
  constants = named 1 (codes "Nat") ∷ [];
  definitions = record { definition = record { title = codes "pc"; params = []; body = num 0; outside = true }; place = at 2 } ∷ [];
  opaque = record { keyword = []; names = codes "Spec" ∷ []; place = at 3 } ∷ record { keyword = []; names = codes "Len" ∷ []; place = at 4 } ∷ [];
}

outside_names : reserved_declared (with_names a b (codes "M") c d) outside
    ≡ record { rule = Reserved; place = at 1 } ∷ record { rule = Reserved; place = at 2 } ∷ record { rule = Reserved; place = at 3 } ∷ []
outside_names = refl

-- ---- arguments

abbrev uses : List Macro → Statement → List Refusal
uses ms st = use_offences_of (one_body ms (labelled (codes "A") (stands 2 st done))).algorithm around

-- f(y)
abbrev of_y : Word → Tree
of_y f = node (operator_call f) (at 3) (tree (read 4 y) no_trees)

variable_with_an_argument : uses [] (await (of_y x)) ≡ one Arity 3
variable_with_an_argument = refl

constant_with_an_argument : uses [] (await (of_y (codes "N"))) ≡ one Arity 3
constant_with_an_argument = refl

self_with_an_argument : uses [] (await (of_y (codes "self"))) ≡ one Arity 3
self_with_an_argument = refl

bound_with_an_argument : uses [] (with (is (named 5 q) (num 0) no_binds) (stands 2 (await (of_y q)) done)) ≡ one Arity 3
bound_with_an_argument = refl

-- a unit that was not read, with an argument: no wrong number
unread_with_an_argument : uses [] (await (of_y (codes "Big"))) ≡ one OpaqueUnit 3
unread_with_an_argument = refl

-- an operator of a standard module that the profile leaves out
left_out : uses [] (await (of_y (codes "SelectSeq"))) ≡ one Unknown 3
left_out = refl

-- x := x + K, where K is nothing
no_constant : uses [] (sets (read 4 x) (read 5 (codes "K"))) ≡ one Unknown 5
no_constant = refl

-- M(x), where macro M() has no parameters: at its name
macro_arguments : uses (record { name = title (codes "M"); params = []; body = stands 9 skip done } ∷ []) (macro (codes "M") (tree (read 4 x) no_trees)) ≡ one Arity 2
macro_arguments = refl

-- call P(x), where procedure P() has no parameters: at its name
procedure_arguments : use_offences_of (record (with_names a b c d (codes "e")) {
  main = alone (labelled (codes "A") (stands 2 (call (named 3 d) (tree (read 4 a) no_trees)) done));
}) around ≡ one Arity 3
procedure_arguments = refl
