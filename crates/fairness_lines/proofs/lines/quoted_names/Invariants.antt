-- What is kept while words are put in the pool: the strings of those so far.
use Rattle.std.proofs.Common.{map, take}
use Rattle.tla_tree.specs.Pool.{Keeps}
use Rattle.tla_tree.proofs.PoolNumbers.{Have}
use Rattle.module_tree.specs.Formulas.{quoted}
use Rattle.fairness_lines.proofs.lines.quoted_names.Given as goal

abbrev pub invariant-loop-name : goal.invariant-loop-name
invariant-loop-name l = Keeps l.fn.pool l.pool × Have l.pool l.strings.items (map quoted (take l.name-index l.names))
