-- Proves what is asked of `setting`.
use Rattle.std.proofs.Common.{subst}
use Rattle.std.proofs.lemmas.Result.{err_from_is_err_and}
use Rattle.tla_tree.specs.Spelling.{Phrase}
use Rattle.tla_tree.specs.Reader.{Out}
use Rattle.expr_nodes.specs.ReadIn.{Fails}
use Rattle.expr_rows.proofs.ReadLemmas.{fails_on, fails_then}
use Rattle.region_items.proofs.OpeningRead.{operand_inside}
use Rattle.region_items.proofs.plain_items.setting.Goals as goal

pub returns-in_err-e-clause-read : goal.returns-in_err-e-clause-read
returns-in_err-e-clause-read c p =
    let s = c.args.s in
    let q = err_from_is_err_and c.from_residual-in_err-e.result c.from_residual-in_err-e.ensures.1 in
    let w = c.in_err-e.field-0.0 in
    let inner = subst (λ (o : Out Phrase). Fails w o) (operand_inside s.left _ s.edge _ _ c.in_ok-from.ensures.left c.in_ok-from.ensures.edge) c.in_err-e.ensures.read in
    rw (q.1, q.2) (fails_on w _ _ _ c.in_ok-at.ensures.value (fails_on w _ _ _ c.in_ok-from.ensures.value (fails_then w _ _ inner)))
