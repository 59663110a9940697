-- Proves what is asked of `is_numbered`.
use Rattle.std.proofs.Common.{◌∙◌, sym, ap, pos, ◌+◌}
use Rattle.std.specs.Ordering.{is_eq}
use Rattle.tla_value.specs.Value.{int}
use Rattle.tla_value.specs.Order.{order}
use Rattle.value_text.proofs.Written.{numbered_next}
use Rattle.value_text.proofs.write.is_numbered.Goals as goal

pub loop-i-preserved : goal.loop-i-preserved
loop-i-preserved c =
    c.loop-i.invariant ∙ numbered_next c.args.domain.now c.loop-i.i _ c.loop-i-test.true (ap (λ v. is_eq (order v (int (pos (c.loop-i.i + 1))))) (sym c.index-domain-i.is) ∙ sym c.is_number.ensures ∙ c.if-not-is_number.false)
