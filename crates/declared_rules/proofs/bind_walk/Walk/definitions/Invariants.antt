-- What is kept: what is left still gives the whole.
use Rattle.std.proofs.Common.{drop}
use Rattle.declared_rules.specs.declared.bind_walk.Walk.{Walk}
use Rattle.declared_rules.proofs.UnitLaws.{AddsDefinitions}
use Rattle.declared_rules.proofs.bind_walk.Walk.definitions.Given as goal

abbrev pub invariant-loop-i : goal.invariant-loop-i
invariant-loop-i l = (k : Walk) → AddsDefinitions l.sight l.pool (drop l.i l.list) l.self k → AddsDefinitions l.sight l.pool l.list l.fn.self k
