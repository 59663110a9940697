-- What the loop keeps: the names that are left tell it.
use Rattle.std.proofs.Common.{◌≡◌, drop}
use Rattle.tla_value.specs.States.{value_of}
use Rattle.module_tree.specs.ActionTruth.{are_unchanged}
use Rattle.action_truth.proofs.formulas.are_unchanged.Given as goal

abbrev pub invariant-loop-x : goal.invariant-loop-x
invariant-loop-x l = are_unchanged (value_of l.pair.from.now) (value_of l.pair.to.now) (drop l.x-index l.names) ≡ are_unchanged (value_of l.pair.from.now) (value_of l.pair.to.now) l.names
