-- What is kept: what is left still gives the whole.
use Rattle.std.proofs.Common.{drop}
use Rattle.pcal_tree.specs.InMemory.{declarations_at}
use Rattle.read_rules.specs.declared.used.Used.{Used}
use Rattle.read_rules.specs.Using.{Adds}
use Rattle.read_rules.specs.JumpsIn.{used_by_starts}
use Rattle.read_rules.proofs.jumps.add_starts.Given as goal

abbrev pub invariant-loop-i : goal.invariant-loop-i
invariant-loop-i l = (k : Used) → Adds l.used k (used_by_starts (declarations_at l.pool (drop l.i l.list))) → Adds l.fn.used k (used_by_starts (declarations_at l.pool l.list))
