-- Small algorithms on which the definitions are tried.
use Rattle.std.specs.Prelude.{ℕ, pos, List, [], ◌∷◌, false, codes, None}
use Rattle.tla_token.specs.declared.place.Place.{Place}
use Rattle.tla_tree.specs.declared.op.Op.{Op}
use Rattle.tla_tree.specs.Tree.{Word, operator, apply, number, name, strict, Tree, node, no_trees, tree}
use Rattle.tla_value.specs.Value.{Value, truth, int, text}
use Rattle.tla_value.specs.Stops.{plain}
use Rattle.pcal_tree.specs.declared.mark.Mark.TheVariants.{Plain}
use Rattle.pcal_tree.specs.Algorithm.{Name, no_assignments, assignment, Statement, assign, Statements, then, mark, equals, Declaration, Macro, alone, Algorithm, Naming}
use Rattle.pcal_tree.specs.Scope.{State, put}
use Rattle.pcal_tree.specs.Program.{Program}
use Rattle.pcal_tree.specs.Variables.{pc}

-- places are told apart by their column
abbrev pub at : ℕ → Place
at n = record { line = 1; col = n }

abbrev pub title : Word → Name
title x = record { word = x; place = at 1 }

abbrev pub x : Word
x = codes "x"

abbrev pub y : Word
y = codes "y"

abbrev pub num : ℕ → Tree
num k = node (number k) (at 1) no_trees

abbrev pub var : Word → Tree
var n = node (name n) (at 1) no_trees

abbrev pub over : Op → Tree → Tree → Tree
over o a b = node (strict (operator o)) (at 1) (tree a (tree b no_trees))

abbrev pub item : Tree → Tree → Tree
item f a = node (strict apply) (at 1) (tree f (tree a no_trees))

abbrev pub and_next : Statement → Statements → Statements
and_next st rest = then (record { first = at 1; last = at 1 }) st rest

abbrev pub sets : Tree → Tree → Statement
sets l e = assign (assignment l e no_assignments)

abbrev pub labelled : Word → Statements → Statements
labelled l rest = mark (title l) Plain rest

abbrev pub an_int : ℕ → Value
an_int k = int (pos k)

abbrev pub variable : Word → Tree → Declaration
variable n e = record { name = title n; start = equals e }

-- the written names are those of the algorithm
abbrev pub same_names : Naming
same_names = record { local = λ n w. w; label = λ n l. l; title = λ n. codes "P" }

abbrev pub program : Algorithm → Program
program a = record { check = plain; constants = λ w. None; outside = []; algorithm = a; naming = same_names }

-- variables x = 0, y = 0, macros, and one body
abbrev pub one_body : List Macro → Statements → Program
one_body ms ss = program (record {
  name = title (codes "One");
  fair = false;
  globals = variable x (num 0) ∷ variable y (num 0) ∷ [];
  definitions = [];
  macros = ms;
  procedures = [];
  main = alone ss;
})

-- x = 0, y = 0, and pc is at a label
abbrev pub at_start : Word → State
at_start l = put pc (text l) (put y (an_int 0) (put x (an_int 0) (λ w. truth false)))
