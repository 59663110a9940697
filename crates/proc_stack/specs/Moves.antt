-- Lists of assignments in memory, one after another in a step.
use Rattle.std.specs.Prelude.{ℕ, List, [], ◌∷◌, map, Vec}
use Rattle.std.specs.declared.alloc.Global.{Global}
use Rattle.tla_tree.specs.Tree.{Tree}
use Rattle.tla_tree.specs.Nesting.{greatest}
use Rattle.pcal_tree.specs.declared.algorithm.Assignment.{Assignment}
use Rattle.pcal_tree.specs.Algorithm.{nowhere, Assignments, assign, Statements, done, then}
use Rattle.pcal_tree.specs.InMemory.{assignments_at, past_assignment}
use Rattle.action_builder.specs.Jumps.{spot}

-- assignments one after another, as statements of a step
abbrev pub in_order : List Assignments → Statements
in_order [] = done
in_order (m ∷ ms) = then (spot nowhere) (assign m) (in_order ms)

abbrev pub move_at : List Tree → Vec Assignment Global → Assignments
move_at ts m = assignments_at ts m.items

abbrev pub moves_at : List Tree → List (Vec Assignment Global) → List Assignments
moves_at ts ms = map (move_at ts) ms

-- past which numbers theirs are
abbrev pub past_sides : List Assignment → ℕ
past_sides ms = greatest (map past_assignment ms)

abbrev pub past_move : Vec Assignment Global → ℕ
past_move m = past_sides m.items

abbrev pub past_moves : List (Vec Assignment Global) → ℕ
past_moves ms = greatest (map past_move ms)
