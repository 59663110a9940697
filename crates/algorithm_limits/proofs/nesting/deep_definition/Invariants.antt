-- What is kept while definitions are looked at.
use Rattle.std.proofs.Common.{◌≡◌, [], drop}
use Rattle.pcal_tree.specs.InMemory.{definitions_at}
use Rattle.algorithm_limits.proofs.DeepFound.{FoundDeep}
use Rattle.algorithm_limits.proofs.nesting.deep_definition.Given as goal

abbrev pub invariant-loop-definition : goal.invariant-loop-definition
invariant-loop-definition l = (l.bound ≡ []) × FoundDeep l.depths l.found (definitions_at l.pool l.definitions) (definitions_at l.pool (drop l.definition-index l.definitions))
