-- Proves what is asked of `turns`.
use Rattle.std.proofs.Common.{arith}
use Rattle.run_files.proofs.TurnLaws.{turn_passed, turns_stop}
use Rattle.run_files.proofs.script.turns.Goals as goal

pub returns-in-Ok-None : goal.returns-in-Ok-None
returns-in-Ok-None c =
    let t = c.in-Some.ensures in (
      turns_stop c.args.multi c.args.text.now c.args.from c.loop-at.at c.loop-at.turns.items c.in-Some.line c.loop-at.invariant.0 t (rw c.in-Ok-None.field-0-is at c.in-Ok-None.ensures),
      omega (arith, t.short, t.inside),
    )

pub loop-at-preserved : goal.loop-at-preserved
loop-at-preserved c = (
  turn_passed c.args.multi c.args.text.now c.args.from c.loop-at.at c.loop-at.turns.items c.push.new.self.items c.in-Some.line c.in-Ok-Some.turn c.loop-at.invariant.0 c.in-Some.ensures (rw c.in-Ok-Some.field-0-is at c.in-Ok-Some.ensures) c.in_ok-push-in-Ok-Some.ensures.items,
  c.in-Some.ensures.inside,
)
