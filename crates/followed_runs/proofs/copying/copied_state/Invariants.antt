-- What the loop keeps: names that aren't left have their values in the copy.
use Rattle.std.proofs.Common.{drop}
use Rattle.followed_runs.proofs.CopyLaws.{Copied}
use Rattle.followed_runs.proofs.copying.copied_state.Given as goal

abbrev pub invariant-loop-name : goal.invariant-loop-name
invariant-loop-name l = Copied (drop l.name-index l.variables) l.state l.copy
