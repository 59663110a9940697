-- What is kept: those that were passed are copied.
use Rattle.std.proofs.Common.{◌≡◌, List, map, take}
use Rattle.tla_tree.specs.Tree.{Tree}
use Rattle.pcal_tree.specs.InMemory.{definition_at, past_definition}
use Rattle.expansion.proofs.algorithm.definitions.Given as goal

abbrev pub invariant-loop-one : goal.invariant-loop-one
invariant-loop-one l = ((ts : List Tree) → map (definition_at ts) l.copies.items ≡ map (definition_at ts) (take l.one-index l.list)) × (map past_definition l.copies.items ≡ map past_definition (take l.one-index l.list))
