-- Proves that there is a value for each identifier.
use Rattle.std.proofs.Common.{◌≡◌, List, length, sym, ap, ◌∙◌, arith}
use Rattle.tla_value.specs.Order.{count}
use Rattle.tla_value.specs.Value.{Value, values_in}
use Rattle.step_meaning.proofs.ChoiceLaws.{count_is}
use Rattle.step_meaning.proofs.spread.function_for.Goals as goal

pub function-requires-clause-each : goal.function-requires-clause-each
function-requires-clause-each c =
    let many : length c.args.ids.now ≡ length c.args.values.items = omega (arith, c.if-len-ids.false, c.len.ensures, c.args.values.ok.0) in
    ap (λ (l : List Value). count (values_in l)) c.in_ok-domain.ensures ∙ count_is c.args.ids.now ∙ many ∙ sym (count_is c.args.values.items)
