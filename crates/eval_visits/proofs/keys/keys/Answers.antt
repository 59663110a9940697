-- Proves what is asked of `keys`.
use Rattle.eval_visits.specs.Visits.{bounded_keys}
use Rattle.value_forms.proofs.StopLaws.{err_is}
use Rattle.eval_visits.proofs.KeyLemmas.{keys_next, keys_stop, keys_end}
use Rattle.eval_visits.proofs.keys.keys.Goals as goal

pub loop-row-preserved : goal.loop-row-preserved
loop-row-preserved c =
    keys_next c.args.at c.args.rows.now c.loop-row.row-index c.row-item.result c.in_ok-key.field-0 c.loop-row.all.items _ (bounded_keys c.args.at c.args.rows.now) c.loop-row-test.true c.row-item.is c.in_ok-key.ensures c.in_ok-push.ensures.items c.loop-row.invariant

pub returns-in_err-key : goal.returns-in_err-key
returns-in_err-key c =
    err_is _ c.from_residual.result c.in_err-key.field-0.0 (bounded_keys c.args.at c.args.rows.now) c.from_residual.ensures
    (keys_stop c.args.at c.args.rows.now c.loop-row.row-index c.row-item.result c.in_err-key.field-0.0 c.loop-row.all.items (bounded_keys c.args.at c.args.rows.now) c.loop-row-test.true c.row-item.is c.in_err-key.ensures c.loop-row.invariant)

pub returns : goal.returns
returns c = keys_end c.args.at c.args.rows.now c.loop-row.row-index c.loop-row.all.items (bounded_keys c.args.at c.args.rows.now) c.loop-row-test.false c.loop-row.invariant
