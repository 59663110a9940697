-- Proves that a name is assigned after each of these.
use Rattle.std.proofs.Common.{[], ◌∷◌, subst}
use Rattle.pcal_tree.specs.laws.MacroSummaries.{in_turn}
use Rattle.label_steps.specs.GatheredIn.{Adds}
use Rattle.label_steps.proofs.AddsLaws.{adds_none, adds_more, adds_all, singles}
use Rattle.label_steps.proofs.gathered.Gathered.turns.Goals as goal

pub loop-one-init : goal.loop-one-init
loop-one-init c = adds_none c.args.known.now c.args.self.now

pub loop-one-preserved : goal.loop-one-preserved
loop-one-preserved c =
    adds_more c.args.known.now (λ x. in_turn x c.args.name.now ∷ []) c.args.self.now c.loop-one.self c.turn.new.self c.args.before.now c.loop-one.one-index c.one-item.result c.one-item.is c.loop-one-test.true c.loop-one.invariant c.in_ok-turn.ensures

pub returns : goal.returns
returns c =
    subst (λ ps. Adds c.args.known.now c.args.self.now c.loop-one.self [] ps) (singles (λ x. in_turn x c.args.name.now) c.args.before.now)
    (adds_all c.args.known.now (λ x. in_turn x c.args.name.now ∷ []) c.args.self.now c.loop-one.self c.args.before.now c.loop-one.one-index c.loop-one-test.false c.loop-one.invariant)
