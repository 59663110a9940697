-- What is kept: calls of the macros so far offend what is kept of them.
use Rattle.std.proofs.Common.{◌≡◌, [], take}
use Rattle.name_rules.specs.Calling.{Means}
use Rattle.name_rules.specs.Keeping.{procedures_at, calls_at}
use Rattle.name_rules.proofs.macros.Callees.fill.Given as goal

abbrev pub invariant-loop-one : goal.invariant-loop-one
invariant-loop-one l = l.fn.self.macros.entries ≡ [] → l.fn.self.procedures ≡ [] → Means l.self (calls_at l.pool (take l.one-index l.macros) (procedures_at l.pool l.procedures)) (procedures_at l.pool l.procedures)
