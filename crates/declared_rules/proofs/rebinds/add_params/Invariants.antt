-- What is kept: the parameters of those that were passed are among the names.
use Rattle.std.proofs.Common.{◌∷◌, take}
use Rattle.algorithm_limits.specs.DepthsIn.{Hides}
use Rattle.declared_rules.specs.Macros.{macro_names}
use Rattle.declared_rules.proofs.rebinds.add_params.Given as goal

abbrev pub invariant-loop-i : goal.invariant-loop-i
invariant-loop-i l = Hides l.fn.names l.names (l.process ∷ macro_names (take l.i l.macros))
