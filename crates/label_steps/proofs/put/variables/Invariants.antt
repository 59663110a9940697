-- What is kept: the variables of the names that were passed.
use Rattle.std.proofs.Common.{◌≡◌, take}
use Rattle.std.specs.List.{flat_map}
use Rattle.tla_tree.specs.Pool.{trees_at}
use Rattle.label_steps.specs.PutIn.{variable_put}
use Rattle.label_steps.proofs.put.variables.Given as goal

abbrev pub invariant-loop-name : goal.invariant-loop-name
invariant-loop-name l = l.list.items ≡ flat_map (variable_put l.params (trees_at l.pool l.args)) (take l.name-index l.names)
