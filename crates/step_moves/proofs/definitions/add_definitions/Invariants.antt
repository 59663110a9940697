-- What the loop keeps: of all definitions some were added, and the rest are left.
use Rattle.std.proofs.Common.{drop}
use Rattle.step_moves.proofs.DefinitionLaws.{SoFar}
use Rattle.step_moves.proofs.definitions.add_definitions.Given as goal

abbrev pub invariant-loop-one : goal.invariant-loop-one
invariant-loop-one l = SoFar l.fn.into l.into l.list (drop l.one-index l.list)
