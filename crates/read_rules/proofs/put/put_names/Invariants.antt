-- What is kept: the names that were passed are there besides.
use Rattle.std.proofs.Common.{take}
use Rattle.tla_tree.specs.Pool.{trees_at}
use Rattle.read_rules.specs.Joins.{Joins}
use Rattle.read_rules.specs.PutIn.{words_put}
use Rattle.read_rules.proofs.put.put_names.Given as goal

abbrev pub invariant-loop-name : goal.invariant-loop-name
invariant-loop-name l = Joins l.fn.names l.names (words_put l.params (trees_at l.pool l.args) (take l.name-index l.from))
