-- What is kept: names that were passed are looked at.
use Rattle.std.proofs.Common.{◌∷◌, [], take}
use Rattle.std.specs.List.{flat_map}
use Rattle.pcal_tree.specs.declared.algorithm.Bind.{Bind}
use Rattle.declared_rules.specs.Parts.{bind_name}
use Rattle.declared_rules.specs.Finding.{AddsNames}
use Rattle.declared_rules.proofs.found.Found.bind_names.Given as goal

abbrev pub invariant-loop-bind : goal.invariant-loop-bind
invariant-loop-bind l = AddsNames l.fn.self l.self (flat_map (λ (b : Bind). bind_name b ∷ []) (take l.bind-index l.binds))
