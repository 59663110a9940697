-- What is kept: names that were passed are looked at.
use Rattle.std.proofs.Common.{◌∷◌, [], take}
use Rattle.std.specs.List.{flat_map}
use Rattle.pcal_tree.specs.declared.algorithm.Declaration.{Declaration}
use Rattle.declared_rules.specs.Finding.{AddsNames}
use Rattle.declared_rules.proofs.found.Found.declared.Given as goal

abbrev pub invariant-loop-declaration : goal.invariant-loop-declaration
invariant-loop-declaration l = AddsNames l.fn.self l.self (flat_map (λ (d : Declaration). d.name ∷ []) (take l.declaration-index l.declarations))
