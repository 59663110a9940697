-- Proves what is seen in a call of a macro.
use Rattle.std.proofs.Common.{◌∙◌}
use Rattle.std.proofs.lemmas.Result.{on_ok_weaker}
use Rattle.tla_tree.specs.Pool.{trees_at}
use Rattle.read_rules.proofs.KnownLaws.{labelled_walks, plain_walks}
use Rattle.read_rules.proofs.walk.Walk.call.Goals as goal

pub returns-then-self : goal.returns-then-self
returns-then-self c =
    on_ok_weaker c.take_ways.result
    (λ done d h.
    labelled_walks d c.deref.result.now (trees_at c.args.pool.now c.args.args.now) c.args.self.now c.take_ways.new.self (c.deref.ensures.value ∙ h.params) c.if-self.true
    (done d.unreached_at_label d.reached_at_label h.labelled.unreached h.labelled.reached)) c.take_ways.ensures

pub returns-else-self : goal.returns-else-self
returns-else-self c =
    on_ok_weaker c.take_ways-else-self.result
    (λ done d h.
    plain_walks d c.deref-else-self.result.now (trees_at c.args.pool.now c.args.args.now) c.args.self.now c.take_ways-else-self.new.self (c.deref-else-self.ensures.value ∙ h.params) c.if-self.false
    (done d.unreached d.reached h.plain.unreached h.plain.reached)) c.take_ways-else-self.ensures
