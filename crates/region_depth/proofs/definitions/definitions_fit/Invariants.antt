-- What is kept while definitions are looked at.
use Rattle.std.proofs.Common.{◌≡◌, [], drop}
use Rattle.tla_value.specs.Defs.{definitions_at}
use Rattle.region_depth.proofs.DeepRow.{RoomSoFar}
use Rattle.region_depth.proofs.definitions.definitions_fit.Given as goal

abbrev pub invariant-loop-definition : goal.invariant-loop-definition
invariant-loop-definition l = (l.bound ≡ []) × RoomSoFar l.depths (definitions_at l.pool l.definitions) (definitions_at l.pool (drop l.definition-index l.definitions))
