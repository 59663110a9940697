-- Proves that a name is looked for among others.
use Rattle.std.proofs.Common.{refl, sym, ◌∙◌}
use Rattle.algorithm_limits.proofs.Tables.{equal}
use Rattle.algorithm_limits.proofs.BoundLemmas.{none_more, found_at, none_at_all}
use Rattle.algorithm_limits.proofs.bound.is_among.Goals as goal

pub loop-i-init : goal.loop-i-init
loop-i-init c = refl

pub loop-i-preserved : goal.loop-i-preserved
loop-i-preserved c = none_more (equal c.args.name.now) c.args.names.now c.loop-i.i c.index-names-i.result c.index-names-i.is c.loop-i-test.true c.loop-i.invariant (sym c.eq.ensures ∙ c.if-eq.false)

pub returns-then-eq : goal.returns-then-eq
returns-then-eq c = found_at (equal c.args.name.now) c.args.names.now c.loop-i.i c.index-names-i.result c.index-names-i.is c.loop-i-test.true (sym c.eq.ensures ∙ c.if-eq.true)

pub returns : goal.returns
returns c = none_at_all (equal c.args.name.now) c.args.names.now c.loop-i.i c.loop-i-test.false c.loop-i.invariant
