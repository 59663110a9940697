-- Proves what is asked of `write_part`.
use Rattle.std.proofs.Common.{List, ◌++◌, ap, ◌∙◌}
use Rattle.tla_write.specs.declared.write.Ahead.{Ahead}
use Rattle.tla_tree.specs.Written.{text_of, part}
use Rattle.tla_write.specs.Ahead.{all_ahead}
use Rattle.tla_write.proofs.AheadLemmas.{step_on, step_less}
use Rattle.tla_write.proofs.write.write_part.Goals as goal

pub loop-next-init : goal.loop-next-init
loop-next-init c = λ ps.
    c.in_ok-write_next.ensures.0 ps ∙ ap (λ (rest : List Ahead). c.args.into.now ++ text_of (part c.args.e c.args.operand (all_ahead rest ps))) c.new-ahead.ensures.items

pub loop-next-preserved : goal.loop-next-preserved
loop-next-preserved c = step_on c.loop-next.ahead.items c.pop.new.self.items c.write_next-in-Some.new.ahead.items c.in-Some.next c.args.into.now c.loop-next.into c.write_next-in-Some.new.into (part c.args.e c.args.operand) c.in-Some.ensures.items c.in_ok-write_next-2.ensures.0 c.loop-next.invariant

pub loop-next-smaller : goal.loop-next-smaller
loop-next-smaller c = step_less c.loop-next.ahead.items c.pop.new.self.items c.write_next-in-Some.new.ahead.items c.in-Some.next c.in-Some.ensures.items c.in_ok-write_next-2.ensures.1
