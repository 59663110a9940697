-- What is kept: the parameters of the macros that were passed are there besides.
use Rattle.std.proofs.Common.{take}
use Rattle.read_rules.specs.Joins.{Joins}
use Rattle.read_rules.specs.WantedIn.{params_in}
use Rattle.read_rules.proofs.wanted.add_all_params.Given as goal

abbrev pub invariant-loop-one : goal.invariant-loop-one
invariant-loop-one l = Joins l.fn.names l.names (params_in (take l.one-index l.macros))
