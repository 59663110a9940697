-- Why the calls that go through an expression end, and what their loop keeps.
use Rattle.std.proofs.Common.{◌+◌, ◌*◌}
use Rattle.tla_pool.specs.FormOf.{form_of}
use Rattle.name_rules.proofs.TreeLaws.{ToldParts}
use Rattle.name_rules.proofs.found.Found.+trees.Given as goal

abbrev pub decreases-expr : goal.decreases-expr
decreases-expr l = 2 * l.e + 1

abbrev pub decreases-parts : goal.decreases-parts
decreases-parts l = 2 * l.past

abbrev pub invariant-parts-loop-i : goal.invariant-parts-loop-i
invariant-parts-loop-i l = ToldParts l.fn.self l.self (form_of l.form) l.pool l.parts l.i
