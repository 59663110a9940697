-- Proves that a statement with none in it is passed.
use Rattle.added_labels.specs.Sight.{effects_of}
use Rattle.added_labels.proofs.SightLaws.{seen_as}
use Rattle.added_labels.proofs.seen.Where.simple.Goals as goal

pub returns-clause-sees : goal.returns-clause-sees
returns-clause-sees c = λ ms a j n.
    seen_as (effects_of c.args.self.now ms) c.args.pool.now c.args.simple.now j c.args.path.now c.pass.new.self c.args.seen c.in_ok-step.step c.meets-met.result c.due_behind.result
    _ _ _ c.into-inner.result c.into-inner.ensures c.one_of.ensures c.one_of-2.ensures (c.in_ok-step.ensures ms a j n) c.meets-met.ensures (c.jumps-leaves.ensures c.args.pool.now) c.in_ok-pass.ensures.path (c.due_behind.ensures c.args.pool.now j n)
