-- Proves that the names that are in are given, in the order.
use Rattle.std.proofs.Common.{[], ◌∷◌, ◌++◌, sym, ◌∙◌, arith}
use Rattle.name_bits.specs.NamesIn.{has}
use Rattle.name_bits.proofs.NameLaws.{in_more, not_more}
use Rattle.name_bits.proofs.bits.Bits.names.Goals as goal
use Rattle.name_bits.proofs.bits.Bits.names.Goals.{then-has+in_ok-copied+in_ok-push, else-has}

pub loop-number-preserved : goal.loop-number-preserved
loop-number-preserved c =
    let number = c.loop-number.number in
    let before = c.loop-number.invariant in
    elim c.if-has.branch [
      | then-has+in_ok-copied+in_ok-push w ↦
          w.names-is ∙ w.in_ok-push.ensures.ok ∙ (λ j. before j ++ w.in_ok-copied.ensures j ∷ [])
          ∙ sym (in_more (has c.args.self.now) number c.args.order.now w.name.result.now w.name.ensures (sym c.has.ensures ∙ w.if-has.true))
      | else-has w ↦
          w.names-is ∙ before
          ∙ sym (not_more (has c.args.self.now) number c.args.order.now (omega (arith, c.loop-number-test.true, c.len-number-end.ensures)) (sym c.has.ensures ∙ w.if-has.false))
    ]
