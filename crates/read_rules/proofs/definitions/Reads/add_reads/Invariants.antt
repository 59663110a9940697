-- What is kept: what the names that were passed are or read is there besides.
use Rattle.std.proofs.Common.{List, take}
use Rattle.pcal_tree.specs.Reads.{Reading}
use Rattle.read_rules.specs.Joins.{Joins}
use Rattle.read_rules.specs.ReadsIn.{AreReads, reads_all}
use Rattle.read_rules.proofs.definitions.Reads.add_reads.Given as goal

abbrev pub invariant-loop-one : goal.invariant-loop-one
invariant-loop-one l = (ds : List Reading) → AreReads l.self ds → Joins l.fn.into l.into (reads_all l.globals ds (take l.one-index l.names))
