-- Why the calls that go through an expression end, and what their loop keeps.
use Rattle.std.proofs.Common.{◌+◌, ◌*◌, Bool}
use Rattle.tla_tree.specs.Tree.{Word}
use Rattle.tla_pool.specs.FormOf.{form_of}
use Rattle.declared_rules.proofs.ExprLaws.{MetParts}
use Rattle.declared_rules.proofs.bind_walk.Walk.+exprs.Given as goal

abbrev pub decreases-expr : goal.decreases-expr
decreases-expr l = 2 * l.e + 1

abbrev pub decreases-parts : goal.decreases-parts
decreases-parts l = 2 * l.past

abbrev pub invariant-parts-loop-i : goal.invariant-parts-loop-i
invariant-parts-loop-i l = (K : Word → Bool) → MetParts l.sight K l.fn.self l.self (form_of l.form) l.pool l.parts l.i
