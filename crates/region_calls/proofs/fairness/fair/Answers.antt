-- Proves what is asked of `fair`.
use Rattle.std.proofs.Common.{ℕ}
use Rattle.std.proofs.lemmas.Result.{err_from_is_err_and}
use Rattle.tla_tree.specs.Reader.{Out}
use Rattle.module_tree.specs.Units.{FairForm}
use Rattle.module_write.specs.declared.«module».Fairness.{Fairness}
use Rattle.expr_nodes.specs.Ahead.{ahead}
use Rattle.expr_nodes.specs.ReadIn.{Told}
use Rattle.region_items.specs.Begins.{bound}
use Rattle.region_calls.specs.Told.{IsFair}
use Rattle.region_calls.proofs.FairSteps.{fair_read, fair_stopped}
use Rattle.region_calls.proofs.fairness.fair.Goals as goal

pub returns-clause-read : goal.returns-clause-read
returns-clause-read c =
    let v = c.args.tokens.now in
    let s = c.args.s in
    fair_read (λ (p : Out FairForm). Told (λ (x : Fairness × ℕ) f. IsFair c.fair_from.new.pool x.0 f) (λ x. ahead v x.1) c.fair_from.result p)
    s.left c.in_ok-all.left s.edge (ahead v s.at) _ c.in_ok-all.ensures.read (λ f is. c.fair_from.ensures.read f is)

pub returns-in_err-all-clause-read : goal.returns-in_err-all-clause-read
returns-in_err-all-clause-read c =
    let s = c.args.s in
    let p = err_from_is_err_and c.from_residual.result c.from_residual.ensures.1 in
    rw (p.1, p.2) (fair_stopped _ (bound s.left) s.edge (ahead c.args.tokens.now s.at) c.in_err-all.ensures.read)
