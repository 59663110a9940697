-- Proves that all names are tested, up to the first that has changed.
use Rattle.std.proofs.Common.{◌∙◌, sym}
use Rattle.tla_value.specs.States.{value_of}
use Rattle.action_truth.proofs.UnchangedLaws.{unchanged_next, changed}
use Rattle.action_truth.proofs.formulas.are_unchanged.Goals as goal

pub returns-then-not-is_same : goal.returns-then-not-is_same
returns-then-not-is_same c =
    sym (changed (value_of c.args.pair.now.from.now) (value_of c.args.pair.now.to.now) c.args.names.now c.loop-x.x-index c.x-item.result c.x-item.is c.loop-x-test.true (sym c.is_unchanged-is_same.ensures ∙ c.if-not-is_same.true) c.loop-x.invariant)

pub loop-x-preserved : goal.loop-x-preserved
loop-x-preserved c =
    unchanged_next (value_of c.args.pair.now.from.now) (value_of c.args.pair.now.to.now) c.args.names.now c.loop-x.x-index c.x-item.result c.x-item.is c.loop-x-test.true (sym c.is_unchanged-is_same.ensures ∙ c.if-not-is_same.false) c.loop-x.invariant
