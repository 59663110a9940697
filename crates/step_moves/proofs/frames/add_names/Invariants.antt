-- What the loop keeps: what is there, with the names that are left, is the whole.
use Rattle.std.proofs.Common.{◌≡◌, ◌++◌, drop}
use Rattle.step_moves.proofs.frames.add_names.Given as goal

abbrev pub invariant-loop-name : goal.invariant-loop-name
invariant-loop-name l = l.all.items ++ drop l.name-index l.names ≡ l.fn.all.items ++ l.names
