-- What comes of one step, and of a start, tried by computation.
use Rattle.std.proofs.Common.{◌≡◌, ℕ, List, [], ◌∷◌, true, false, codes, Some, None, refl}
use Rattle.tla_token.specs.declared.place.Place.{Place}
use Rattle.tla_tree.specs.declared.op.Op.TheVariants.{Less, Divide}
use Rattle.tla_tree.specs.Tree.{Tree, Trees, set_of, strict, node, no_trees, tree}
use Rattle.tla_value.specs.declared.fault.FaultKind.TheVariants.{BadDivisor, NotFunction, NotInDomain}
use Rattle.tla_value.specs.Value.{text, fault}
use Rattle.tla_value.specs.Order.{seq_from}
use Rattle.pcal_tree.specs.declared.mark.Mark.TheVariants.{Plain}
use Rattle.pcal_tree.specs.declared.mark.Fairness.TheVariants.{Unfair}
use Rattle.pcal_tree.specs.Algorithm.{Statement, skip, await, with, one_of, no_binds, Statements, done, then, mark, among, Declaration, processes, Main, alone}
use Rattle.pcal_tree.specs.Scope.{State, put}
use Rattle.pcal_tree.specs.Program.{Program}
use Rattle.pcal_tree.specs.Variables.{pc}
use Rattle.pcal_tree.specs.StepAnswers.{reached, held_at, no_label, needs_choice, too_many_choices, stopped_by, stepped, start_by}
use Rattle.pcal_tree.specs.InitialChoice.{nothing}
use Rattle.pcal_tree.proofs.Sample.{title, x, y, num, var, over, sets, an_int, variable, program}

abbrev at : ℕ → ℕ → Place
at l c = record { line = l; col = c }

-- 7:3 is the label A, and the step's one statement is at 7:6
abbrev at_a : Statement → Statements
at_a st = mark (record { word = codes "A"; place = at 7 3 }) Plain (then (record { first = at 7 6; last = at 7 20 }) st done)

abbrev these : Trees → Tree
these ts = node (strict set_of) (at 7 16) ts

abbrev algorithm : List Declaration → Main → Program
algorithm ds m = program (record { name = record { word = codes "R"; place = at 4 13 }; fair = false; globals = ds; definitions = []; macros = []; procedures = []; main = m })

abbrev one_step : Statement → Program
one_step st = algorithm (variable x (num 0) ∷ variable y (num 0) ∷ []) (alone (at_a st))

abbrev start : State
start = put pc (text (codes "A")) (put y (an_int 0) (put x (an_int 0) nothing))

-- ---- A: with v \in S do x := v; end with;

abbrev from_set : Trees → Program
from_set ts = one_step (with (one_of (title (codes "v")) (these ts) no_binds) (then (record { first = at 7 22; last = at 7 27 }) (sets (var x) (var (codes "v"))) done))

empty : stepped (from_set no_trees) start None [] ≡ held_at (at 7 6)
empty = refl

abbrev P : Program
P = from_set (tree (num 3) (tree (num 5) no_trees))

missing : stepped P start None [] ≡ needs_choice 2 (at 7 6)
missing = refl

out_of_range : stepped P start None (0 ∷ []) ≡ needs_choice 2 (at 7 6)
out_of_range = refl

past : stepped P start None (3 ∷ []) ≡ needs_choice 2 (at 7 6)
past = refl

second : stepped P start None (2 ∷ []) ≡ reached (put pc (text (codes "Done")) (put x (an_int 5) start), codes "A")
second = refl

left_over : stepped P start None (2 ∷ 1 ∷ []) ≡ too_many_choices (at 7 3)
left_over = refl

-- ---- what is met first

-- A: await x < 0, with choices left over
held_first : stepped (one_step (await (over Less (var x) (num 0)))) start None (1 ∷ []) ≡ held_at (at 7 6)
held_first = refl

-- A: x := 1 \div y, with choices left over
faults_first : stepped (one_step (sets (var x) (over Divide (num 1) (var y)))) start None (1 ∷ []) ≡ stopped_by (fault BadDivisor (at 1 1))
faults_first = refl

-- ---- no label

not_there : stepped P (put pc (text (codes "Done")) start) None [] ≡ no_label
not_there = refl

no_text : stepped P (put pc (an_int 5) start) None [] ≡ no_label
no_text = refl

-- process Q \in {1, 2} begin A: skip; end process
abbrev two : Program
two = algorithm [] (processes (record { name = record { word = codes "Q"; place = at 5 9 }; fairness = Unfair; several = true; identity = these (tree (num 1) (tree (num 2) no_trees)); variables = []; body = at_a skip } ∷ []))

-- 3 is no identifier, also where pc can't be read; for an identifier that is the fault, at the process's name
no_identifier : stepped two start (Some (an_int 3)) [] ≡ no_label
no_identifier = refl

no_pc : stepped two start (Some (an_int 2)) [] ≡ stopped_by (fault NotFunction (at 5 9))
no_pc = refl

-- nor for one that is no argument of pc
no_argument : stepped two (put pc (seq_from []) start) (Some (an_int 2)) [] ≡ stopped_by (fault NotInDomain (at 5 9))
no_argument = refl

-- ---- the start

-- variables x \in S
abbrev chosen : Trees → Program
chosen ts = algorithm (record { name = record { word = x; place = at 5 11 }; start = among (these ts) } ∷ []) (alone (at_a skip))

from_nothing : start_by (chosen no_trees) [] ≡ held_at (at 5 11)
from_nothing = refl

abbrev of_two : Program
of_two = chosen (tree (num 7) (tree (num 4) no_trees))

start_missing : start_by of_two [] ≡ needs_choice 2 (at 5 11)
start_missing = refl

start_made : start_by of_two (2 ∷ []) ≡ reached (put pc (text (codes "A")) (put x (an_int 7) nothing))
start_made = refl

start_left_over : start_by of_two (2 ∷ 1 ∷ []) ≡ too_many_choices (at 4 13)
start_left_over = refl

-- a set with one member takes a choice too
one_member : start_by (chosen (tree (num 7) no_trees)) [] ≡ needs_choice 1 (at 5 11)
one_member = refl
