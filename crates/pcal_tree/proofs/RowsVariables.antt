-- Assignments to what is no variable, operators whose modules aren't extended, infinite sets, and variables outside, tried by computation.
use Rattle.std.proofs.Common.{◌≡◌, ℕ, List, [], ◌∷◌, Bool, true, false, codes, refl}
use Rattle.tla_token.specs.declared.rule.Rule.{Rule}
use Rattle.tla_token.specs.declared.rule.Rule.TheVariants.{NotVariable, NeedsModule, OutsideVariable, OpaqueUnit, Infinite}
use Rattle.tla_token.specs.declared.rule.Refusal.{Refusal}
use Rattle.tla_tree.specs.declared.op.Op.{Op}
use Rattle.tla_tree.specs.declared.op.Op.TheVariants.{Plus, Negate, Concat, MapsTo, Equal, Cup}
use Rattle.tla_tree.specs.declared.op.Binder.TheVariants.{ForAll}
use Rattle.tla_tree.specs.Tree.{Word, Tree, node, strings, strict, set_of, operator, operator_call, member, binding, no_trees, tree}
use Rattle.tla_value.specs.Outside.{Outside, Opaque}
use Rattle.pcal_tree.specs.Algorithm.{no_binds, one_of, is, await, print, assert, with, macro, skip, Statements, done, among, Macro, alone, Algorithm}
use Rattle.pcal_tree.specs.OffencesNames.{use_offences_of}
use Rattle.pcal_tree.specs.OffencesModules.{module_needs, outside_variables}
use Rattle.pcal_tree.proofs.Sample.{at, title, x, y, num, sets, item, labelled, one_body}
use Rattle.pcal_tree.proofs.RowsOffences.{stands, read, named, q, around, hiding}

abbrev p : Word
p = codes "p"

abbrev one : Rule → ℕ → List Refusal
one r n = record { rule = r; place = at n } ∷ []

abbrev body : List Macro → Statements → Algorithm
body ms b = (one_body ms (labelled (codes "A") b)).algorithm

abbrev extending : List Word → Outside
extending ms = record { extended = ms; constants = title (codes "N") ∷ []; definitions = []; opaque = [] }

abbrev uses : List Macro → Statements → List Refusal
uses ms b = use_offences_of (body ms b) around

-- a := 0
abbrev assigns : Tree → Statements
assigns l = stands 2 (sets l (num 0)) done

-- ---- left sides

a_constant : uses [] (assigns (read 3 (codes "N"))) ≡ one NotVariable 3
a_constant = refl

with_a_subscript : uses [] (assigns (item (read 3 (codes "N")) (read 4 x))) ≡ one NotVariable 3
with_a_subscript = refl

a_standard_operator : uses [] (assigns (read 3 (codes "Len"))) ≡ one NotVariable 3
a_standard_operator = refl

itself : uses [] (assigns (read 3 (codes "self"))) ≡ one NotVariable 3
itself = refl

-- with q = 0 do q := 0; end with
a_bound_name : uses [] (stands 2 (with (is (named 3 q) (num 0) no_binds) (assigns (read 4 q))) done) ≡ one NotVariable 4
a_bound_name = refl

a_variable : uses [] (assigns (item (read 3 x) (read 4 y))) ≡ []
a_variable = refl

-- ---- arguments of parameters that are assigned

-- macro M(p) begin p := 0; end macro
abbrev setting : Macro
setting = record { name = title (codes "M"); params = title p ∷ []; body = assigns (read 4 p) }

abbrev calls : Word → Tree → Statements
calls m t = stands 9 (macro m (tree t no_trees)) done

abbrev plus_one : ℕ → Word → Tree
plus_one n w = node (strict (operator Plus)) (at n) (tree (read n w) (tree (num 1) no_trees))

-- M(x[y]), M(N), M(x + 1)
with_a_variable : uses (setting ∷ []) (calls (codes "M") (item (read 10 x) (read 11 y))) ≡ []
with_a_variable = refl

with_a_constant : uses (setting ∷ []) (calls (codes "M") (read 10 (codes "N"))) ≡ one NotVariable 10
with_a_constant = refl

with_an_expression : uses (setting ∷ []) (calls (codes "M") (plus_one 10 x)) ≡ one NotVariable 10
with_an_expression = refl

-- macro K(p) begin M(p); end macro: the outermost argument
abbrev handing : Tree → Macro
handing t = record { name = title (codes "K"); params = title p ∷ []; body = calls (codes "M") t }

handed_on : uses (setting ∷ handing (read 12 p) ∷ []) (calls (codes "K") (plus_one 10 x)) ≡ one NotVariable 10
handed_on = refl

handed_on_well : uses (setting ∷ handing (read 12 p) ∷ []) (calls (codes "K") (read 10 x)) ≡ []
handed_on_well = refl

-- macro K(p) begin M(p + 1); end macro, and K(x)
handed_on_within : uses (setting ∷ handing (plus_one 12 p) ∷ []) (calls (codes "K") (read 10 x)) ≡ one NotVariable 12
handed_on_within = refl

-- a macro that is never called
not_called : uses (setting ∷ handing (plus_one 12 p) ∷ []) (stands 2 skip done) ≡ []
not_called = refl

-- ---- modules

abbrev needs : List Word → List Macro → Statements → List Refusal
needs ms ds b = module_needs (body ds b) (extending ms)

abbrev applied : Op → Tree
applied o = node (strict (operator o)) (at 3) (tree (read 3 x) (tree (read 5 y) no_trees))

-- x + y
a_sign : needs [] [] (stands 2 (await (applied Plus)) done) ≡ one NeedsModule 3
a_sign = refl

with_naturals : needs (codes "Naturals" ∷ []) [] (stands 2 (await (applied Plus)) done) ≡ []
with_naturals = refl

-- -x is of Integers alone
a_minus_before : needs (codes "Naturals" ∷ []) [] (stands 2 (await (node (strict (operator Negate)) (at 3) (tree (read 4 x) no_trees))) done) ≡ one NeedsModule 3
a_minus_before = refl

-- x \o y, x :> y; x = y and x \cup y need none
of_sequences : needs (codes "Integers" ∷ []) [] (stands 2 (await (applied Concat)) done) ≡ one NeedsModule 3
of_sequences = refl

of_tlc : needs (codes "Integers" ∷ []) [] (stands 2 (await (applied MapsTo)) done) ≡ one NeedsModule 3
of_tlc = refl

of_none : needs [] [] (stands 2 (await (applied Equal)) (stands 6 (await (applied Cup)) done)) ≡ []
of_none = refl

-- print and assert, also in a macro that is never called, and so with signs
in_any_macro : needs [] (record { name = title (codes "M"); params = []; body = stands 7 (print (num 0)) (stands 8 (assert (applied Plus)) done) } ∷ []) (stands 2 skip done)
    ≡ record { rule = NeedsModule; place = at 3 } ∷ record { rule = NeedsModule; place = at 7 } ∷ record { rule = NeedsModule; place = at 8 } ∷ []
in_any_macro = refl

-- Len(x), where Sequences isn't extended; in a macro through calls alone
abbrev length_of_x : Tree
length_of_x = node (operator_call (codes "Len")) (at 3) (tree (read 4 x) no_trees)

an_operator_with_a_name : use_offences_of (body [] (stands 2 (await length_of_x) done)) (extending (codes "Integers" ∷ [])) ≡ one NeedsModule 3
an_operator_with_a_name = refl

abbrev measuring : Macro
measuring = record { name = title (codes "M"); params = title p ∷ []; body = stands 2 (await length_of_x) done }

named_where_called : use_offences_of (body (measuring ∷ []) (calls (codes "M") (num 0))) (extending []) ≡ one NeedsModule 3
named_where_called = refl

named_not_called : use_offences_of (body (measuring ∷ []) (stands 2 skip done)) (extending []) ≡ []
named_not_called = refl

-- where a unit that was not read has the name, it is no operator of a module
hidden_operator : use_offences_of (body [] (stands 2 (await length_of_x) done)) hiding ≡ one OpaqueUnit 3
hidden_operator = refl

-- procedure P() begin L: skip; end procedure
abbrev with_procedure : Algorithm
with_procedure = record {
  name = title (codes "One");
  fair = false;
  globals = [];
  definitions = [];
  macros = [];
  procedures = record { name = named 6 (codes "P"); params = []; variables = []; body = labelled (codes "L") (stands 2 skip done) } ∷ [];
  main = alone (labelled (codes "A") (stands 2 skip done));
}

a_procedure : module_needs with_procedure (extending (codes "TLC" ∷ [])) ≡ one NeedsModule 6
a_procedure = refl

a_procedure_and_sequences : module_needs with_procedure (extending (codes "Sequences" ∷ [])) ≡ []
a_procedure_and_sequences = refl

-- ---- infinite sets

abbrev with_all : Outside
with_all = extending (codes "Integers" ∷ codes "Sequences" ∷ [])

abbrev awaits : Tree → List Refusal
awaits e = use_offences_of (body [] (stands 2 (await e) done)) with_all

-- x \in s, or x \notin s
abbrev is_in : Bool → Tree → Tree
is_in b s = node (member b) (at 3) (tree (read 3 x) (tree s no_trees))

abbrev natural : ℕ → Tree
natural n = read n (codes "Nat")

abbrev sequences : ℕ → Tree → Tree
sequences n t = node (operator_call (codes "Seq")) (at n) (tree t no_trees)

on_the_right : awaits (is_in true (natural 5)) ≡ []
on_the_right = refl

on_the_right_of_notin : awaits (is_in false (sequences 5 (read 6 y))) ≡ []
on_the_right_of_notin = refl

alone_in_a_set : awaits (is_in true (node (strict set_of) (at 5) (tree (natural 6) no_trees))) ≡ one Infinite 6
alone_in_a_set = refl

-- Nat \in y
on_the_left : awaits (node (member true) (at 3) (tree (natural 3) (tree (read 5 y) no_trees))) ≡ one Infinite 3
on_the_left = refl

-- x \in Seq(Nat): the inner one
within_another : awaits (is_in true (sequences 5 (natural 6))) ≡ one Infinite 6
within_another = refl

-- \A q \in Int : q, and with q \in Nat: no operators
in_a_binder : awaits (node (binding ForAll ((named 4 q ∷ []) ∷ [])) (at 3) (tree (read 5 (codes "Int")) (tree (read 6 q) no_trees))) ≡ one Infinite 5
in_a_binder = refl

in_a_with : use_offences_of (body [] (stands 2 (with (one_of (named 3 q) (natural 4) no_binds) (stands 5 skip done)) done)) with_all ≡ one Infinite 4
in_a_with = refl

-- macro M(p) begin await x \in p; end macro, and M(Nat)
as_an_argument : use_offences_of (body (record { name = title (codes "M"); params = title p ∷ []; body = stands 2 (await (is_in true (read 5 p))) done } ∷ []) (calls (codes "M") (natural 10))) with_all
    ≡ one Infinite 10
as_an_argument = refl

-- STRING, in any macro text
abbrev all_strings : ℕ → Tree
all_strings n = node strings (at n) no_trees

strings_on_the_right : needs [] [] (stands 2 (await (is_in true (all_strings 5))) done) ≡ []
strings_on_the_right = refl

strings_elsewhere : needs [] (record { name = title (codes "M"); params = []; body = stands 2 (await (node (strict set_of) (at 4) (tree (all_strings 5) no_trees))) done } ∷ []) (stands 2 skip done) ≡ one Infinite 5
strings_elsewhere = refl

-- variable v \in STRING
in_a_declaration : module_needs (record with_procedure {
  globals = record { name = title x; start = among (all_strings 5) } ∷ [];
}) (extending (codes "Sequences" ∷ [])) ≡ one Infinite 5
in_a_declaration = refl

-- ---- variables outside

abbrev unit : Word → ℕ → Opaque
unit w n = record { keyword = w; names = codes "v" ∷ []; place = at n }

declared_outside : outside_variables (record around { opaque = unit (codes "VARIABLE") 3 ∷ unit (codes "THEOREM") 4 ∷ unit (codes "VARIABLES") 5 ∷ [] })
    ≡ record { rule = OutsideVariable; place = at 3 } ∷ record { rule = OutsideVariable; place = at 5 } ∷ []
declared_outside = refl
