-- Proves what is asked of `way_from`.
use Rattle.std.proofs.lemmas.Result.{err_from_is_err_and}
use Rattle.expr_nodes.specs.Ahead.{ahead}
use Rattle.region_items.specs.Begins.{bound}
use Rattle.region_calls.proofs.CallSteps.{way_lost}
use Rattle.region_calls.proofs.calls.way_from.Goals as goal

pub returns-in_err-action-clause-read : goal.returns-in_err-action-clause-read
returns-in_err-action-clause-read c = λ q.
    let v = c.args.tokens.now in
    let s = c.args.s in
    let p = err_from_is_err_and c.from_residual-in_err-action.result c.from_residual-in_err-action.ensures.1 in
    rw (p.1, p.2) (way_lost _ (bound s.left) s.edge q (ahead v s.at) _ c.in_ok-name.ensures.read c.in_err-action.ensures.read)
