-- What is kept: the names of the first units are hidden, as many as were looked at.
use Rattle.std.proofs.Common.{take}
use Rattle.module_outside.specs.declared.passed.Passed.{Passed}
use Rattle.pcal_tree.specs.NameUses as names
use Rattle.declared_rules.specs.UsesSeen.{Sees}
use Rattle.declared_rules.proofs.SeenLaws.{seen_of}
use Rattle.declared_rules.proofs.use_sight.Sight.set_passed.Given as goal

abbrev pub invariant-loop-unit : goal.invariant-loop-unit
invariant-loop-unit l = (s : names.Sight) → Sees l.fn.self s → Sees l.self (seen_of (λ (u : Passed). u.names.items) names.unread (take l.unit-index l.list) s)
