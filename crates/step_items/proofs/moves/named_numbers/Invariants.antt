-- What is kept: the arguments that were passed are made.
use Rattle.std.proofs.Common.{◌≡◌, ◌≤◌, Option, length, take}
use Rattle.tla_tree.specs.Tree.{Tree, grafts}
use Rattle.tla_tree.specs.Pool.{trees_at, Keeps}
use Rattle.pcal_tree.specs.Algorithm.{Routine}
use Rattle.pcal_tree.specs.InMemory.{past_numbers}
use Rattle.pcal_tree.specs.Program.{Program}
use Rattle.action_builder.specs.WrittenNames.{renames}
use Rattle.step_items.specs.Desks.{IsDesk}
use Rattle.step_items.proofs.moves.named_numbers.Given as goal

abbrev pub invariant-loop-argument : goal.invariant-loop-argument
invariant-loop-argument l =
    Keeps l.fn.pool l.pool
    × (past_numbers l.made.items ≤ length l.pool)
    × ((P : Program) (u : Routine) (x : Option Tree) → IsDesk l.fn.pool l.desk P u x → trees_at l.pool l.made.items ≡ grafts (renames P u) (trees_at l.fn.pool (take l.argument-index l.arguments)))
