-- What is kept: those that were passed are made.
use Rattle.std.proofs.Common.{◌≡◌, ◌≤◌, ℕ, List, map, take}
use Rattle.tla_tree.specs.Tree.{Tree}
use Rattle.tla_value.specs.Defs.{definitions_at, DefinitionsIn}
use Rattle.pcal_tree.specs.InMemory as in_memory
use Rattle.pcal_tree.specs.Program.{inner}
use Rattle.module_builder.proofs.definitions.definitions.Given as goal

abbrev pub invariant-loop-one : goal.invariant-loop-one
invariant-loop-one l =
    ((ts : List Tree) → definitions_at ts l.made ≡ map inner (in_memory.definitions_at ts (take l.one-index l.list)))
    × ((m : ℕ) → in_memory.past_definitions l.list ≤ m → DefinitionsIn m l.made)
