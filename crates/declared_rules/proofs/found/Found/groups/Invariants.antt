-- What is kept: groups that were passed are looked at.
use Rattle.std.proofs.Common.{take}
use Rattle.std.specs.List.{flat_map}
use Rattle.std.proofs.Common.{Vec, Global}
use Rattle.tla_tree.specs.Tree.{Name}
use Rattle.declared_rules.specs.Finding.{AddsNames}
use Rattle.declared_rules.proofs.found.Found.groups.Given as goal

abbrev pub invariant-loop-i : goal.invariant-loop-i
invariant-loop-i l = AddsNames l.fn.self l.self (flat_map (λ (g : Vec Name Global). g.items) (take l.i l.groups))
