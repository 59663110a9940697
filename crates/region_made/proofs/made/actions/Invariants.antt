-- Why the loop of `actions` ends, and what it keeps.
use Rattle.std.proofs.Common.{length}
use Rattle.region_made.specs.Parts.{ahead}
use Rattle.region_made.proofs.Rows.{ActionsSoFar}
use Rattle.region_made.proofs.made.actions.Given as goal

abbrev pub invariant-loop-action : goal.invariant-loop-action
invariant-loop-action l = ActionsSoFar l.actions.items (ahead l.fn.first l.fn.units) (ahead l.next l.units)

abbrev pub decreases-loop-action : goal.decreases-loop-action
decreases-loop-action l = length (ahead l.next l.units)
