-- Proves that a left side is kept with each of these.
use Rattle.std.proofs.Common.{[], ◌∷◌}
use Rattle.pcal_tree.specs.laws.MacroSummaries.{at_once}
use Rattle.label_steps.specs.PutIn.{side_of}
use Rattle.label_steps.proofs.AddsLaws.{adds_none, adds_more, adds_all}
use Rattle.label_steps.proofs.gathered.Gathered.before_sides.Goals as goal

pub loop-one-init : goal.loop-one-init
loop-one-init c = adds_none c.args.known.now c.args.self.now

pub loop-one-preserved : goal.loop-one-preserved
loop-one-preserved c =
    adds_more c.args.known.now (λ s. at_once (side_of c.args.side.now) (side_of s) ∷ []) c.args.self.now c.loop-one.self c.once.new.self c.args.sides.now c.loop-one.one-index c.one-item.result c.one-item.is c.loop-one-test.true c.loop-one.invariant
    c.in_ok-once.ensures

pub returns : goal.returns
returns c = adds_all c.args.known.now (λ s. at_once (side_of c.args.side.now) (side_of s) ∷ []) c.args.self.now c.loop-one.self c.args.sides.now c.loop-one.one-index c.loop-one-test.false c.loop-one.invariant
