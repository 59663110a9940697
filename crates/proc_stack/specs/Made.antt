-- What is made in memory behind what was there.
use Rattle.std.specs.Prelude.{◌≡◌, ℕ, ◌≤◌, List, ◌++◌, length, map, Vec}
use Rattle.std.specs.declared.alloc.Global.{Global}
use Rattle.tla_tree.specs.Tree.{Tree}
use Rattle.tla_tree.specs.Pool.{at}
use Rattle.tla_tree.specs.Nesting.{greatest}
use Rattle.pcal_tree.specs.declared.algorithm.Assignment.{Assignment}
use Rattle.pcal_tree.specs.Algorithm.{Assignments, assignment}
use Rattle.pcal_tree.specs.InMemory.{past_number, past_assignment}
use Rattle.proc_stack.specs.Moves.{move_at, past_move}

-- behind the members that were there are others, whose numbers are of the pool, and which stand for these
pub record Adds {A B : Type 0} (past : A → ℕ) (stands : List Tree → A → B) (ts : List Tree) (before after : List A) (these : List B) : Type 0 where
  pub made : List A
  pub behind : after ≡ before ++ made
  pub within : greatest (map past made) ≤ length ts
  pub stand : map (stands ts) made ≡ these

-- expressions
abbrev pub AddsTrees : List Tree → List ℕ → List ℕ → List Tree → Type 0
AddsTrees ts before after these = Adds past_number at ts before after these

-- a left side and a right side, before others
abbrev pub Sides : Type 0
Sides = Assignments → Assignments

abbrev pub sides_at : List Tree → Assignment → Sides
sides_at ts m = assignment (at ts m.left) (at ts m.right)

abbrev pub AddsSides : List Tree → List Assignment → List Assignment → List Sides → Type 0
AddsSides ts before after these = Adds past_assignment sides_at ts before after these

-- assignments of their own
abbrev pub AddsMoves : List Tree → List (Vec Assignment Global) → List (Vec Assignment Global) → List Assignments → Type 0
AddsMoves ts before after these = Adds past_move move_at ts before after these
