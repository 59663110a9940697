-- What is kept: the names of those that were passed are added.
use Rattle.std.proofs.Common.{List, take}
use Rattle.std.specs.List.{flat_map}
use Rattle.tla_tree.specs.Tree.{Tree}
use Rattle.declared_rules.specs.Met.{Adds, expr_words}
use Rattle.declared_rules.proofs.met.Met.exprs.Given as goal

abbrev pub invariant-loop-e : goal.invariant-loop-e
invariant-loop-e l = (ts : List Tree) → Adds ts l.fn.self l.self (flat_map (expr_words ts) (take l.e-index l.es))
