-- What is kept: what is left still gives the whole.
use Rattle.std.proofs.Common.{drop}
use Rattle.tla_tree.specs.Pool.{trees_at}
use Rattle.pcal_tree.specs.Reads.{used_by_all}
use Rattle.read_rules.specs.declared.used.Used.{Used}
use Rattle.read_rules.specs.Using.{Adds}
use Rattle.read_rules.proofs.used.Used.exprs.Given as goal

abbrev pub invariant-loop-i : goal.invariant-loop-i
invariant-loop-i l = (k : Used) → Adds l.self k (used_by_all (trees_at l.pool (drop l.i l.es))) → Adds l.fn.self k (used_by_all (trees_at l.pool l.es))
