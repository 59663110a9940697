-- What is kept: the names of those that were passed are looked at.
use Rattle.std.proofs.Common.{◌∷◌, [], take}
use Rattle.std.specs.List.{flat_map}
use Rattle.pcal_tree.specs.declared.algorithm.Procedure.{Procedure}
use Rattle.declared_rules.specs.Finding.{AddsNames}
use Rattle.declared_rules.proofs.found.Found.procedure_titles.Given as goal

abbrev pub invariant-loop-procedure : goal.invariant-loop-procedure
invariant-loop-procedure l = AddsNames l.fn.self l.self (flat_map (λ (d : Procedure). d.name ∷ []) (take l.procedure-index l.list))
