-- Proves that a statement with none in it is passed.
use Rattle.std.proofs.lemmas.Result.{on_ok_weaker}
use Rattle.label_steps.proofs.WalksLaws.{simple_passed}
use Rattle.label_steps.proofs.around.Around.simple.Goals as goal

pub returns-clause-passed : goal.returns-clause-passed
returns-clause-passed c =
    on_ok_weaker c.pass.result (λ moved at there ms k E s p h j r.
    simple_passed c.args.self.now ms c.args.pool.now E s p c.args.path.now c.pass.new.self h j c.args.simple.now at c.args.place c.in_ok-step.step c.args.met.now c.meet.new.self c.jumps.result
    (c.in_ok-step.ensures ms k j r) there c.in_ok-meet.ensures.first (c.jumps.ensures c.args.pool.now) (c.in_ok-meet.ensures.found ms k) moved) c.pass.ensures.path
