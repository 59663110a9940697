-- What is kept: those that were passed are looked at.
use Rattle.std.proofs.Common.{List, take}
use Rattle.std.specs.List.{flat_map}
use Rattle.tla_tree.specs.Tree.{Tree}
use Rattle.declared_rules.specs.Parts.{expr_parts}
use Rattle.declared_rules.specs.Finding.{Adds}
use Rattle.declared_rules.proofs.found.Found.exprs.Given as goal

abbrev pub invariant-loop-e : goal.invariant-loop-e
invariant-loop-e l = (ts : List Tree) → Adds ts l.fn.self l.self (flat_map (expr_parts ts) (take l.e-index l.es))
