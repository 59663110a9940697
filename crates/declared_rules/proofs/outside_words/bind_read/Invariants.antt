-- What is kept: the names of those that were passed are bound.
use Rattle.std.proofs.Common.{◌∷◌, [], take}
use Rattle.std.specs.List.{flat_map}
use Rattle.module_outside.specs.declared.definition.ReadDefinition.{ReadDefinition}
use Rattle.algorithm_limits.specs.DepthsIn.{Hides}
use Rattle.declared_rules.proofs.outside_words.bind_read.Given as goal

abbrev pub invariant-loop-definition : goal.invariant-loop-definition
invariant-loop-definition l = Hides l.fn.bound l.bound (flat_map (λ (d : ReadDefinition). d.title.word ∷ []) (take l.definition-index l.list))
