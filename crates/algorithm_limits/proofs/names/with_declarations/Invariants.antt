-- What is kept while names are counted.
use Rattle.std.proofs.Common.{◌≡◌, drop}
use Rattle.algorithm_limits.specs.Counting.{counted, declared_names}
use Rattle.algorithm_limits.proofs.names.with_declarations.Given as goal

abbrev pub invariant-loop-declaration : goal.invariant-loop-declaration
invariant-loop-declaration l = counted l.so_far (declared_names (drop l.declaration-index l.declarations)) ≡ counted l.fn.count (declared_names l.declarations)
