-- What is kept: the names of the parameters that were passed are there besides.
use Rattle.std.proofs.Common.{take}
use Rattle.read_rules.specs.Joins.{Joins}
use Rattle.read_rules.specs.WantedIn.{names_in}
use Rattle.read_rules.proofs.wanted.add_params.Given as goal

abbrev pub invariant-loop-param : goal.invariant-loop-param
invariant-loop-param l = Joins l.fn.names l.names (names_in (take l.param-index l.params))
