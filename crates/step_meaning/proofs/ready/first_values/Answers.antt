-- Proves that there is a value for each process.
use Rattle.pcal_tree.specs.Calls.{label_value, first_label}
use Rattle.pcal_tree.specs.Program.{Actor}
use Rattle.step_moves.specs.InMemory.{actor_at}
use Rattle.step_meaning.proofs.ReadyLaws.{mapped_more, mapped_all}
use Rattle.step_meaning.proofs.ready.first_values.Goals as goal

pub loop-actor-preserved : goal.loop-actor-preserved
loop-actor-preserved c P ts n =
    mapped_more (λ (v : Actor). label_value P v.own (first_label v.own)) (actor_at ts) c.args.actors.now c.loop-actor.actor-index c.actor-item.result c.loop-actor.all.items c.push.new.self.items c.in_ok-first_value.field-0 c.loop-actor-test.true c.actor-item.is
    c.in_ok-push.ensures.items (c.in_ok-first_value.ensures P ts n) (c.loop-actor.invariant P ts n)

pub returns : goal.returns
returns c P ts n =
    mapped_all (λ (v : Actor). label_value P v.own (first_label v.own)) (actor_at ts) c.args.actors.now c.loop-actor.actor-index c.loop-actor.all.items c.loop-actor-test.false (c.loop-actor.invariant P ts n)
