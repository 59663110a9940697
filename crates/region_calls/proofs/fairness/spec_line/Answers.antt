-- Proves what is asked of `spec_line`.
use Rattle.std.proofs.Common.{◌≡◌, suc, ℕ, arith}
use Rattle.std.proofs.lemmas.Result.{err_from_is_err_and}
use Rattle.tla_tree.specs.Reader.{Out}
use Rattle.module_tree.specs.Units.{SpecForm}
use Rattle.expr_nodes.specs.Ahead.{ahead}
use Rattle.expr_nodes.specs.ReadIn.{Told}
use Rattle.region_calls.specs.declared.fairness.SpecLine.{SpecLine}
use Rattle.region_items.specs.Begins.{bound}
use Rattle.region_calls.specs.Told.{IsSpec}
use Rattle.region_calls.proofs.FairSteps.{spec_read, spec_fair, spec_lost}
use Rattle.region_calls.proofs.fairness.spec_line.Goals as goal

pub returns-in-Some-after_mark-clause-read : goal.returns-in-Some-after_mark-clause-read
returns-in-Some-after_mark-clause-read c =
    let v = c.args.tokens.now in
    let s = c.args.s in
    let d = c.in_ok-d.d in
    let l : suc d.left ≡ s.left = omega (arith, c.in_ok-d.ensures.left) in
    let e = c.in_ok-d.ensures.edge in
    let from = c.in-Some-after_mark in
    spec_read s.edge (ahead v s.at) (λ (o : Out SpecForm). Told (λ (x : SpecLine × ℕ) f. IsSpec c.args.pool.now x.0 f) (λ x. ahead v x.1) c.steps_from.result o)
    s.left d.left d.edge (ahead v from.from) l e from.ensures.there from.ensures.rest (λ p. c.steps_from.ensures.read p c.args.pool.now)

pub returns-in_err-formula-clause-read : goal.returns-in_err-formula-clause-read
returns-in_err-formula-clause-read c =
    let s = c.args.s in
    let p = err_from_is_err_and c.from_residual-in_err-formula.result c.from_residual-in_err-formula.ensures.1 in
    rw (p.1, p.2) (spec_lost s.edge (ahead c.args.tokens.now s.at) _ (bound s.left) c.in_default.ensures.none c.in_default-after_mark.ensures.none c.in_err-formula.ensures.read)

pub returns-clause-read : goal.returns-clause-read
returns-clause-read c =
    let s = c.args.s in
    spec_fair s.edge (ahead c.args.tokens.now s.at) (bound s.left) c.in_default.ensures.none c.in_default-after_mark.ensures.none c.in_ok-formula.ensures.read
