-- What is kept: the first of what was found and of the offences of the uses that were passed.
use Rattle.std.proofs.Common.{List}
use Rattle.pcal_tree.specs.Reads.{Reading}
use Rattle.read_rules.proofs.FoundLaws.{Found}
use Rattle.read_rules.specs.ReadsIn.{AreReads}
use Rattle.read_rules.specs.RefusalsIn.{use_offences}
use Rattle.read_rules.proofs.refusals.with_group.Given as goal

abbrev pub invariant-loop-one : goal.invariant-loop-one
invariant-loop-one l = (ds : List Reading) → AreReads l.reads ds → Found (use_offences ds l.identity l.group.after.names) l.group.uses.items l.one-index l.fn.so_far l.found
