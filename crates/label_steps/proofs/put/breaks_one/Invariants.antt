-- What is kept: whether one of those that were passed is broken.
use Rattle.std.proofs.Common.{◌≡◌, map, take}
use Rattle.std.specs.List.{list_any}
use Rattle.tla_tree.specs.Pool.{trees_at}
use Rattle.pcal_tree.specs.laws.MacroSummaries.{argument, is_broken}
use Rattle.label_steps.specs.PutIn.{pair_of}
use Rattle.label_steps.proofs.put.breaks_one.Given as goal

abbrev pub invariant-loop-i : goal.invariant-loop-i
invariant-loop-i l = l.found ≡ list_any (is_broken (argument l.params (trees_at l.pool l.args))) (map pair_of (take l.i l.pairs))
