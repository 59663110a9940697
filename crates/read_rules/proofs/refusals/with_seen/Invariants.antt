-- What is kept: the first of what was found and of the offences of the groups that were passed.
use Rattle.std.proofs.Common.{List}
use Rattle.pcal_tree.specs.Reads.{Reading}
use Rattle.read_rules.proofs.FoundLaws.{Found}
use Rattle.read_rules.specs.ReadsIn.{AreReads}
use Rattle.read_rules.proofs.RefusalLaws.{group_offences}
use Rattle.read_rules.proofs.refusals.with_seen.Given as goal

abbrev pub invariant-loop-group : goal.invariant-loop-group
invariant-loop-group l = (ds : List Reading) → AreReads l.reads ds → Found (group_offences ds l.identity) l.groups l.group-index l.fn.so_far l.found
