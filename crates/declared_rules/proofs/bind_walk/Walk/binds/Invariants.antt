-- What is kept: what is left still gives the whole.
use Rattle.std.proofs.Common.{drop}
use Rattle.declared_rules.specs.declared.bind_walk.Walk.{Walk}
use Rattle.declared_rules.specs.Bodies.{AddsBinds}
use Rattle.declared_rules.proofs.bind_walk.Walk.binds.Given as goal

abbrev pub invariant-loop-bind : goal.invariant-loop-bind
invariant-loop-bind l = (k : Walk) → AddsBinds l.sight l.pool (drop l.bind-index l.list) l.self k → AddsBinds l.sight l.pool l.list l.fn.self k
