-- What is kept: the places of the names from the last one on that were passed.
use Rattle.std.proofs.Common.{◌≡◌, ◌+◌, ◌-◌, length, drop}
use Rattle.tla_tree.specs.Tree.{Word}
use Rattle.algorithm_limits.specs.Numbers.{number_of}
use Rattle.label_steps.specs.ParamsIn.{place_from}
use Rattle.label_steps.proofs.params.places_of.Given as goal

abbrev pub invariant-loop-i : goal.invariant-loop-i
invariant-loop-i l = (x : Word) → number_of l.places x ≡ place_from (length l.names - l.i + 1) (drop (length l.names - l.i) l.names) x
