-- Variables that are read before they have a value, tried by computation.
use Rattle.std.proofs.Common.{◌≡◌, List, [], ◌∷◌, Bool, false, true, codes, refl}
use Rattle.tla_token.specs.declared.rule.Rule.TheVariants.{ProcessNotConstant, InitSelf, InitLater}
use Rattle.tla_token.specs.declared.rule.Refusal.{Refusal}
use Rattle.tla_tree.specs.declared.op.Binder.TheVariants.{ForAll}
use Rattle.tla_tree.specs.Tree.{Word, Tree, node, strict, set_of, binding, operator_call, no_trees, tree}
use Rattle.pcal_tree.specs.declared.mark.Fairness.TheVariants.{Unfair}
use Rattle.pcal_tree.specs.Algorithm.{skip, done, Start, unset, equals, among, Declaration, Definition, Procedure, Process, Main, alone, processes, Algorithm}
use Rattle.pcal_tree.specs.OffencesReads.{process_offences, own_offences, order_offences}
use Rattle.pcal_tree.proofs.Sample.{at, title, x, y, num, labelled}
use Rattle.pcal_tree.proofs.RowsOffences.{stands, read, named, q}

abbrev pub D : Word
D = codes "D"

abbrev pub E : Word
E = codes "E"

abbrev pub declared_as : Word → Start → Declaration
declared_as w s = record { name = title w; start = s }

abbrev pub defined_as : Word → Tree → Definition
defined_as w e = record { name = title w; params = []; body = e }

-- D == x, E == D, F(a) == a
abbrev pub three_definitions : List Definition
three_definitions =
    defined_as D (read 90 x) ∷ defined_as E (read 91 D)
    ∷ record { name = title (codes "F"); params = title (codes "a") ∷ []; body = read 92 (codes "a") } ∷ []

abbrev pub algorithm : List Declaration → List Procedure → Main → Algorithm
algorithm gs ps m =
    record { name = title (codes "One"); fair = false; globals = gs; definitions = three_definitions; macros = []; procedures = ps; main = m }

abbrev pub process : Bool → Tree → List Declaration → Process
process several e ds = record {
  name = title (codes "P");
  fairness = Unfair;
  several = several;
  identity = e;
  variables = ds;
  body = labelled (codes "start") (stands 80 skip done);
}

abbrev pub set_with : Tree → Tree
set_with e = node (strict set_of) (at 70) (tree e no_trees)

-- ---- identifiers

abbrev identified_by : Bool → Tree → List Refusal
identified_by several e = process_offences (algorithm (declared_as x unset ∷ []) [] (processes (process several e [] ∷ [])))

-- process P = x
variable_as_identifier : identified_by false (read 5 x) ≡ record { rule = ProcessNotConstant; place = at 5 } ∷ []
variable_as_identifier = refl

-- process P \in {x}
variable_in_the_set : identified_by true (set_with (read 5 x)) ≡ record { rule = ProcessNotConstant; place = at 5 } ∷ []
variable_in_the_set = refl

-- process P = E: E reads D, which reads x
through_definitions : identified_by false (read 5 E) ≡ record { rule = ProcessNotConstant; place = at 5 } ∷ []
through_definitions = refl

-- process P = F(1)
constant_definition : identified_by false (node (operator_call (codes "F")) (at 5) (tree (num 1) no_trees)) ≡ []
constant_definition = refl

-- process P = \A x \in q : x
bound_name : identified_by false (node (binding ForAll ((named 6 x ∷ []) ∷ [])) (at 5) (tree (read 7 q) (tree (read 8 x) no_trees))) ≡ []
bound_name = refl

-- ---- sets of a process set's variables

abbrev starting : Bool → Start → List Refusal
starting several s = own_offences (algorithm [] [] (processes (process several (num 1) (declared_as y (equals (num 0)) ∷ declared_as q s ∷ []) ∷ [])))

-- process P \in .. variables y = 0, q \in {self}
self_in_the_set : starting true (among (set_with (read 5 (codes "self")))) ≡ record { rule = InitSelf; place = at 5 } ∷ []
self_in_the_set = refl

-- q \in {y}
local_in_the_set : starting true (among (set_with (read 5 y))) ≡ record { rule = InitSelf; place = at 5 } ∷ []
local_in_the_set = refl

-- q = self is evaluated for each process
self_in_a_value : starting true (equals (read 5 (codes "self"))) ≡ []
self_in_a_value = refl

-- S == self, q \in {S}: the definition offends by another rule
self_in_a_definition :
    own_offences (record (algorithm [] [] (processes (process true (num 1) (declared_as q (among (set_with (read 5 (codes "S")))) ∷ []) ∷ []))) { definitions = defined_as (codes "S") (read 90 (codes "self")) ∷ [] }) ≡ []
self_in_a_definition = refl

-- process P = .. variables y = 0, q \in {self}
in_a_single_process : starting false (among (set_with (read 5 (codes "self")))) ≡ []
in_a_single_process = refl

-- ---- order

abbrev globals_in_order : List Declaration → List Refusal
globals_in_order gs = order_offences (algorithm gs [] (alone (labelled (codes "A") (stands 80 skip done))))

-- variables q = 0, y = q
declared_before : globals_in_order (declared_as q (equals (num 0)) ∷ declared_as y (equals (read 5 q)) ∷ []) ≡ []
declared_before = refl

-- variables y = {q}, q = 0: at the value's first token
declared_later : globals_in_order (declared_as y (equals (set_with (read 5 q))) ∷ declared_as q (equals (num 0)) ∷ []) ≡ record { rule = InitLater; place = at 70 } ∷ []
declared_later = refl

-- variable y \in {y}
itself : globals_in_order (declared_as y (among (set_with (read 5 y))) ∷ []) ≡ record { rule = InitLater; place = at 70 } ∷ []
itself = refl

-- variables y = E, x = 0, and variables x = 0, y = E
later_through_definitions : globals_in_order (declared_as y (equals (read 5 E)) ∷ declared_as x (equals (num 0)) ∷ []) ≡ record { rule = InitLater; place = at 5 } ∷ []
later_through_definitions = refl

before_through_definitions : globals_in_order (declared_as x (equals (num 0)) ∷ declared_as y (equals (read 5 E)) ∷ []) ≡ []
before_through_definitions = refl

abbrev procedure : List Declaration → List Declaration → Procedure
procedure ds es = record { name = title (codes "R"); params = ds; variables = es; body = labelled (codes "B") (stands 81 skip done) }

abbrev in_procedure : List Declaration → List Declaration → List Refusal
in_procedure ds es = order_offences (algorithm (declared_as x unset ∷ []) (procedure ds es ∷ []) (alone (labelled (codes "A") (stands 80 skip done))))

-- procedure R(a = x) variables y = a, q = E
parameters_and_globals : in_procedure (declared_as (codes "a") (equals (read 4 x)) ∷ []) (declared_as y (equals (read 5 (codes "a"))) ∷ declared_as q (equals (read 6 E)) ∷ []) ≡ []
parameters_and_globals = refl

-- procedure R(a = y) variables y = q, q = 0
later_in_a_procedure :
    in_procedure (declared_as (codes "a") (equals (read 4 y)) ∷ []) (declared_as y (equals (read 5 q)) ∷ declared_as q (equals (num 0)) ∷ [])
    ≡ record { rule = InitLater; place = at 4 } ∷ record { rule = InitLater; place = at 5 } ∷ []
later_in_a_procedure = refl

abbrev with_two_units : List Declaration → List Declaration → List Refusal
with_two_units gs ds = order_offences (algorithm gs (procedure [] (declared_as y (equals (num 0)) ∷ []) ∷ []) (processes (process true (num 1) ds ∷ [])))

-- variable x = y, where y is a variable of a procedure
of_another_unit : with_two_units (declared_as x (equals (read 5 y)) ∷ []) [] ≡ record { rule = InitLater; place = at 5 } ∷ []
of_another_unit = refl

-- process P variables q = y: so too
of_a_procedure : with_two_units [] (declared_as q (equals (read 5 y)) ∷ []) ≡ record { rule = InitLater; place = at 5 } ∷ []
of_a_procedure = refl

-- process P variables y = x, q = y: y is its own
own_before : with_two_units (declared_as x unset ∷ []) (declared_as y (equals (read 4 x)) ∷ declared_as q (equals (read 5 y)) ∷ []) ≡ []
own_before = refl
