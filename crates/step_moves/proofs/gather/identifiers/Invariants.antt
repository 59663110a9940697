-- What the loop keeps: what is there, with the identifiers that are left, is the whole.
use Rattle.std.proofs.Common.{◌≡◌, ◌++◌, drop}
use Rattle.step_moves.specs.InMemory.{identifiers_in}
use Rattle.step_moves.proofs.gather.identifiers.Given as goal

abbrev pub invariant-loop-one : goal.invariant-loop-one
invariant-loop-one l = l.values.items ++ identifiers_in (drop l.one-index l.all) ≡ identifiers_in l.all
