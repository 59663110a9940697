-- Proves what is asked of `fair_from`.
use Rattle.std.proofs.Common.{ℕ}
use Rattle.std.proofs.lemmas.Result.{err_from_is_err_and}
use Rattle.tla_tree.specs.Reader.{Out}
use Rattle.module_tree.specs.Units.{FairForm}
use Rattle.module_write.specs.declared.«module».Fairness.{Fairness}
use Rattle.expr_nodes.specs.Ahead.{ahead}
use Rattle.expr_nodes.specs.ReadIn.{Told}
use Rattle.region_items.specs.Begins.{bound}
use Rattle.region_calls.specs.Told.{IsFair}
use Rattle.region_calls.proofs.Kept.{over_kept}
use Rattle.region_calls.proofs.FairSteps.{fair_tested, fair_lost, fair_unopened}
use Rattle.region_calls.proofs.fairness.fair_from.Goals as goal

pub returns-clause-read : goal.returns-clause-read
returns-clause-read c = λ o is.
    let v = c.args.tokens.now in
    let s = c.args.s in
    fair_tested (λ (p : Out FairForm). Told (λ (x : Fairness × ℕ) f. IsFair c.fair_end.new.pool x.0 f) (λ x. ahead v x.1) c.fair_end.result p)
    s.left c.in_ok-d.d.left s.edge c.in_ok-d.d.edge (ahead v s.at) _ _ o _ c.in_ok-d.ensures.left c.in_ok-d.ensures.edge c.in_ok-strong.ensures.read c.in_ok-d.ensures.value c.in_ok-test.left _ c.in_ok-test.ensures.read
    (λ b g j k. c.fair_end.ensures.read o b _ g (over_kept c.in_ok-test.ensures.kept is) j k)

pub returns-in_err-test-clause-read : goal.returns-in_err-test-clause-read
returns-in_err-test-clause-read c = λ o is.
    let v = c.args.tokens.now in
    let s = c.args.s in
    let p = err_from_is_err_and c.from_residual-in_err-test.result c.from_residual-in_err-test.ensures.1 in
    rw (p.1, p.2) (fair_lost _ s.left c.in_ok-d.d.left s.edge c.in_ok-d.d.edge (ahead v s.at) _ _ o _ c.in_ok-d.ensures.left c.in_ok-d.ensures.edge c.in_ok-strong.ensures.read c.in_ok-d.ensures.value c.in_err-test.ensures.read)

pub returns-in_err-d-clause-read : goal.returns-in_err-d-clause-read
returns-in_err-d-clause-read c = λ o is.
    let v = c.args.tokens.now in
    let s = c.args.s in
    let p = err_from_is_err_and c.from_residual-in_err-d.result c.from_residual-in_err-d.ensures.1 in
    rw (p.1, p.2) (fair_unopened _ (bound s.left) s.edge (ahead v s.at) _ o c.in_ok-strong.ensures.read c.in_err-d.ensures.value)
