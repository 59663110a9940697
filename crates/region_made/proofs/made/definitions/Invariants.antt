-- Why the loop of `definitions` ends, and what it keeps.
use Rattle.std.proofs.Common.{length}
use Rattle.region_made.specs.Parts.{ahead}
use Rattle.region_made.proofs.Rows.{DefinitionsSoFar}
use Rattle.region_made.proofs.made.definitions.Given as goal

abbrev pub invariant-loop-definition : goal.invariant-loop-definition
invariant-loop-definition l = DefinitionsSoFar l.definitions (ahead l.fn.first l.fn.units) (ahead l.next l.units)

abbrev pub decreases-loop-definition : goal.decreases-loop-definition
decreases-loop-definition l = length (ahead l.next l.units)
