-- What is kept: none of the names that were passed is the one.
use Rattle.std.proofs.Common.{◌≡◌, take, false}
use Rattle.std.specs.List.{list_any}
use Rattle.algorithm_limits.proofs.Tables.{equal}
use Rattle.algorithm_limits.proofs.bound.is_among.Given as goal

abbrev pub invariant-loop-i : goal.invariant-loop-i
invariant-loop-i l = list_any (equal l.name) (take l.i l.names) ≡ false
