-- Proves what is asked of `termination`.
use Rattle.std.proofs.lemmas.Result.{err_from_is_err_and}
use Rattle.expr_nodes.specs.Ahead.{ahead}
use Rattle.expr_nodes.specs.ReadIn.{Fails}
use Rattle.expr_rows.proofs.ReadLemmas.{fails_then}
use Rattle.region_units.proofs.BracketSteps.{termination_so}
use Rattle.region_units.proofs.own.termination.Goals as goal

pub returns-in_err-ended-clause-read : goal.returns-in_err-ended-clause-read
returns-in_err-ended-clause-read c = λ p.
    let v = c.args.tokens.now in
    let s = c.args.s in
    let q = err_from_is_err_and c.from_residual-in_err-ended.result c.from_residual-in_err-ended.ensures.1 in
    rw (q.1, q.2) (termination_so (Fails c.in_err-ended.field-0.0)
    s.left _ p _ _ _ (ahead v s.at) _ _ _ c.in_ok-from.ensures.left c.in_ok-at.ensures.value c.in_ok-from.ensures.value c.in_ok-at-2.ensures.value
    (fails_then _ _ _ c.in_err-ended.ensures.read))
