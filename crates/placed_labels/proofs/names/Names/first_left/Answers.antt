-- Proves that the first name that no typed label has is found.
use Rattle.std.proofs.Common.{sym, ◌∙◌, arith}
use Rattle.placed_labels.proofs.NameLaws.{typed_more, next_found, met_is, not_met}
use Rattle.placed_labels.proofs.names.Names.first_left.Goals as goal

pub loop-number-preserved : goal.loop-number-preserved
loop-number-preserved c = (
  omega (arith, c.loop-number.invariant.0),
  typed_more c.args.self.now c.loop-number.number c.in_ok-name.name c.loop-number.invariant.1 c.in_ok-name.ensures (met_is _ (λ e. c.if-get-eq0.false (c.get.ensures ∙ e))),
)

pub returns-then-get-eq0-clause-next : goal.returns-then-get-eq0-clause-next
returns-then-get-eq0-clause-next c =
    next_found c.args.self.now c.loop-number.number c.in_ok-name.name c.loop-number.invariant.0 (omega (arith, c.loop-number-test.true)) c.loop-number.invariant.1 c.in_ok-name.ensures (not_met _ (sym c.get.ensures ∙ c.if-get-eq0.true))
