-- What is kept: what those bring that were passed.
use Rattle.std.proofs.Common.{◌≡◌, take}
use Rattle.tla_tree.specs.Pool.{trees_at}
use Rattle.declared_rules.specs.Gathering.{lists_of, each_pieces}
use Rattle.declared_rules.proofs.pieces.each_brings.Given as goal

abbrev pub invariant-loop-i : goal.invariant-loop-i
invariant-loop-i l = lists_of l.lists.items ≡ each_pieces (trees_at l.pool (take l.i l.es))
