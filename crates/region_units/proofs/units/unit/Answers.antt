-- Proves what is asked of `unit`.
use Rattle.std.proofs.Common.{arith}
use Rattle.std.proofs.lemmas.Result.{err_from_is_err_and}
use Rattle.expr_nodes.specs.Ahead.{ahead}
use Rattle.expr_nodes.specs.ViewSeen.{view_seen}
use Rattle.region_units.proofs.WholeUnits.{some_ahead, more_is_none, fails_is_none}
use Rattle.region_units.proofs.units.unit.Goals as goal

pub returns-in_err-unit-clause-none : goal.returns-in_err-unit-clause-none
returns-in_err-unit-clause-none c =
    let v = c.args.tokens.now in
    let first = c.token_at-first.result in
    let q = err_from_is_err_and c.from_residual.result c.from_residual.ensures.1 in
    rw (q.1, q.2) (fails_is_none c.args.left first.place (view_seen v.bytes.items first.view) (ahead v 1) (ahead v 0) c.token_at-first.ensures _ c.in_err-unit.ensures.read)

pub returns-then-at-len-clause-none : goal.returns-then-at-len-clause-none
returns-then-at-len-clause-none c =
    let v = c.args.tokens.now in
    let first = c.token_at-first.result in
    more_is_none c.args.left first.place (view_seen v.bytes.items first.view) (ahead v 1) (ahead v 0) c.token_at-first.ensures (ahead v c.in_ok-unit.at) _ c.refused.ensures
    (some_ahead v c.in_ok-unit.at (omega arith)) c.in_ok-unit.ensures.read
