-- Proves that each of the second names is assigned after each of the first.
use Rattle.std.proofs.Common.{map}
use Rattle.pcal_tree.specs.laws.MacroSummaries.{in_turn}
use Rattle.label_steps.proofs.AddsLaws.{adds_none, adds_more, adds_all}
use Rattle.label_steps.proofs.gathered.Gathered.all_turns.Goals as goal

pub loop-one-init : goal.loop-one-init
loop-one-init c = adds_none c.args.known.now c.args.self.now

pub loop-one-preserved : goal.loop-one-preserved
loop-one-preserved c =
    adds_more c.args.known.now (λ y. map (λ x. in_turn x y) c.args.before.now) c.args.self.now c.loop-one.self c.turns.new.self c.args.names.now c.loop-one.one-index c.one-item.result c.one-item.is c.loop-one-test.true c.loop-one.invariant c.in_ok-turns.ensures

pub returns : goal.returns
returns c =
    adds_all c.args.known.now (λ y. map (λ x. in_turn x y) c.args.before.now) c.args.self.now c.loop-one.self c.args.names.now c.loop-one.one-index c.loop-one-test.false c.loop-one.invariant
