-- What is kept: the first definitions are known, as many as were looked at.
use Rattle.std.proofs.Common.{take}
use Rattle.pcal_tree.specs.NameUses as names
use Rattle.declared_rules.specs.UsesSeen.{Sees}
use Rattle.declared_rules.proofs.SeenLaws.{read_known, latest}
use Rattle.declared_rules.proofs.use_sight.Sight.set_read.Given as goal

abbrev pub invariant-loop-definition : goal.invariant-loop-definition
invariant-loop-definition l = (s : names.Sight) → Sees l.fn.self s → Sees l.self (latest read_known (take l.definition-index l.list) s)
