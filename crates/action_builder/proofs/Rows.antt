-- What is written for some statements, by computation.
use Rattle.std.proofs.Common.{◌≡◌, ℕ, [], ◌∷◌, codes, refl}
use Rattle.tla_token.specs.declared.place.Place.{Place}
use Rattle.tla_tree.specs.declared.op.Op.TheVariants.{Equal}
use Rattle.tla_tree.specs.Tree.{Word, index, number, name, next, strict, operator, apply, except, Tree, node, no_trees, tree}
use Rattle.module_tree.specs.Module.{test, setting, unchanged, exists, if_then_else, either as any, no_items, item, no_branches as no_lists, branch as list}
use Rattle.pcal_tree.specs.Algorithm.{no_assignments, assignment, no_binds, one_of, Statement, assign, skip, branch, either, with, Statements, done, then, no_branches, or}
use Rattle.action_builder.specs.Written.{true_at, write}
use Rattle.action_builder.specs.Prepared.{none}
use Rattle.action_builder.specs.SingleProcess.{in_place_of, graft_items}

abbrev at : Place
at = record { line = 1; col = 1 }

abbrev and_next : Statement → Statements → Statements
and_next st rest = then (record { first = at; last = at }) st rest

abbrev x : Word
x = codes "x"

abbrev y : Word
y = codes "y"

abbrev var : Word → Tree
var w = node (name w) at no_trees

abbrev later : Word → Tree
later w = node (next w) at no_trees

abbrev num : ℕ → Tree
num n = node (number n) at no_trees

abbrev part : Word → Tree → Tree
part w i = node (strict apply) at (tree (var w) (tree i no_trees))

abbrev sets : Tree → Tree → Statement
sets l e = assign (assignment l e no_assignments)

-- x := y; y := x: what is read after its assignment is primed
later_row : write (x ∷ y ∷ []) none (and_next (sets (var x) (var y)) (and_next (sets (var y) (var x)) done)) ≡ item (setting x (var y)) (item (setting y (later x)) no_items)
later_row = refl

-- x := y || y := x: right sides are all read before
at_once_row : write (x ∷ y ∷ []) none (and_next (assign (assignment (var x) (var y) (assignment (var y) (var x) no_assignments))) done) ≡ item (setting x (var y)) (item (setting y (var x)) no_items)
at_once_row = refl

-- x[1] := 2 || x[y] := 3
parts_row : write (x ∷ y ∷ []) none (and_next (assign (assignment (part x (num 1)) (num 2) (assignment (part x (var y)) (num 3) no_assignments))) done)
    ≡ item (setting x (node (strict (except (record { path = index ∷ []; place = at } ∷ record { path = index ∷ []; place = at } ∷ []))) at (tree (var x) (tree (num 1) (tree (num 2) (tree (var y) (tree (num 3) no_trees))))))) no_items
parts_row = refl

-- if x then y := 1; else skip; a branch leaves unchanged what the other assigns
branch_row : write (x ∷ y ∷ []) none (and_next (branch (var x) (and_next (sets (var y) (num 1)) done) (and_next skip done)) done)
    ≡ item (if_then_else (var x) (item (setting y (num 1)) no_items) (item (test (true_at at)) (item (unchanged (y ∷ [])) no_items))) no_items
branch_row = refl

-- either or: a list that would be empty is (TRUE)
empty_row : write (x ∷ y ∷ []) none (and_next (either (or done (or done no_branches))) done) ≡ item (any (list (item (test (true_at at)) no_items) (list (item (test (true_at at)) no_items) no_lists))) no_items
empty_row = refl

-- with y \in x do x := y
with_row : write (x ∷ []) none (and_next (with (one_of (record { word = y; place = at }) (var x) no_binds) (and_next (sets (var x) (var y)) done)) done) ≡ item (exists y (var x) (item (setting x (var y)) no_items)) no_items
with_row = refl

-- process P = 1: (pc[self] = x) and x' = self, with 1 for self
single_row : graft_items (in_place_of (codes "self") (num 1)) (item (test (node (strict (operator Equal)) at (tree (part (codes "pc") (var (codes "self"))) (tree (var x) no_trees)))) (item (setting x (var (codes "self"))) no_items))
    ≡ item (test (node (strict (operator Equal)) at (tree (part (codes "pc") (num 1)) (tree (var x) no_trees)))) (item (setting x (num 1)) no_items)
single_row = refl
