-- Small algorithms on which the written module is tried, in few words.
use Rattle.std.specs.Prelude.{ℕ, List, [], ◌∷◌, ◌++◌, false, codes}
use Rattle.tla_tree.specs.declared.op.Op.{Op}
use Rattle.tla_tree.specs.Tree.{Word, Name, number, strict, operator, tuple, Tree, node, no_trees, tree}
use Rattle.tla_value.specs.Outside.{Outside}
use Rattle.module_tree.specs.Formulas.{named}
use Rattle.module_tree.specs.Module.{Action, action_unit}
use Rattle.module_tree.specs.Layout.{unit_text}
use Rattle.pcal_tree.specs.declared.mark.Mark.TheVariants.{Plain}
use Rattle.pcal_tree.specs.Algorithm.{nowhere, no_assignments, assignment, Statement, assign, Statements, done, then, mark, equals, Declaration, Procedure, Process, Main, alone, processes, Algorithm}
use Rattle.pcal_tree.specs.Placeless.{no_span}

abbrev pub word : Word → Name
word w = record { word = w; place = nowhere }

-- ---- expressions

abbrev pub x : Word
x = codes "x"

abbrev pub y : Word
y = codes "y"

abbrev pub z : Word
z = codes "z"

abbrev pub num : ℕ → Tree
num n = node (number n) nowhere no_trees

abbrev pub over : Op → Tree → Tree → Tree
over o a b = node (strict (operator o)) nowhere (tree a (tree b no_trees))

-- <<a, b>>
abbrev pub pair : Tree → Tree → Tree
pair a b = node (strict tuple) nowhere (tree a (tree b no_trees))

-- ---- statements

abbrev pub and_next : Statement → Statements → Statements
and_next st rest = then no_span st rest

abbrev pub just : Statement → Statements
just st = and_next st done

abbrev pub sets : Word → Tree → Statement
sets w e = assign (assignment (named w) e no_assignments)

abbrev pub both : Tree → Tree → Tree → Tree → Statement
both a b c d = assign (assignment a b (assignment c d no_assignments))

abbrev pub labelled : Word → Statements → Statements
labelled l rest = mark (word l) Plain rest

-- ---- algorithms

abbrev pub variable : Word → Tree → Declaration
variable w e = record { name = word w; start = equals e }

abbrev pub zero_of : Word → Declaration
zero_of w = variable w (num 0)

abbrev pub with_main : List Declaration → List Procedure → Main → Algorithm
with_main ds ps m = record { name = word (codes "R"); fair = false; globals = ds; definitions = []; macros = []; procedures = ps; main = m }

abbrev pub one_body : List Declaration → Statements → Algorithm
one_body ds ss = with_main ds [] (alone ss)

abbrev pub many : List Declaration → List Process → Algorithm
many ds ps = with_main ds [] (processes ps)

-- EXTENDS Integers
abbrev pub integers : Outside
integers = record { extended = codes "Integers" ∷ []; constants = []; definitions = []; opaque = [] }

-- the texts of actions, one after the other
abbrev pub texts : List Action → List ℕ
texts [] = []
texts (a ∷ actions) = unit_text 1 (action_unit a) ++ texts actions
