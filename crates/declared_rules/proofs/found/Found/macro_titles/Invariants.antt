-- What is kept: the names of those that were passed are looked at.
use Rattle.std.proofs.Common.{◌∷◌, [], take}
use Rattle.std.specs.List.{flat_map}
use Rattle.pcal_tree.specs.declared.algorithm.Macro.{Macro}
use Rattle.declared_rules.specs.Finding.{AddsNames}
use Rattle.declared_rules.proofs.found.Found.macro_titles.Given as goal

abbrev pub invariant-loop-one : goal.invariant-loop-one
invariant-loop-one l = AddsNames l.fn.self l.self (flat_map (λ (d : Macro). d.name ∷ []) (take l.one-index l.list))
