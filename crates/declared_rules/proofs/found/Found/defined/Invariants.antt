-- What is kept: the names of those that were passed are looked at.
use Rattle.std.proofs.Common.{◌∷◌, [], take}
use Rattle.std.specs.List.{flat_map}
use Rattle.pcal_tree.specs.declared.algorithm.Definition.{Definition}
use Rattle.declared_rules.specs.Finding.{AddsNames}
use Rattle.declared_rules.proofs.found.Found.defined.Given as goal

abbrev pub invariant-loop-definition : goal.invariant-loop-definition
invariant-loop-definition l = AddsNames l.fn.self l.self (flat_map (λ (d : Definition). d.name ∷ []) (take l.definition-index l.list))
