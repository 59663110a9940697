-- Proves what is asked of `guard`.
use Rattle.std.proofs.Common.{◌≡◌, suc, arith}
use Rattle.std.proofs.lemmas.Result.{err_from_is_err_and}
use Rattle.expr_nodes.specs.Ahead.{ahead}
use Rattle.region_calls.proofs.FairSteps.{guard_read, guard_lost}
use Rattle.region_calls.proofs.fairness.guard.Goals as goal

pub returns-clause-read : goal.returns-clause-read
returns-clause-read c =
    let v = c.args.tokens.now in
    let s = c.args.s in
    let d = c.in_ok-d.d in
    let l : suc d.left ≡ s.left = omega (arith, c.in_ok-d.ensures.left) in
    let e = c.in_ok-d.ensures.edge in
    guard_read s.left d.left s.edge d.edge (ahead v s.at) (ahead v c.in-Some.from) l e c.in-Some.ensures.there c.in-Some.ensures.rest c.in_ok-test.ensures.read

pub returns-in_err-test-clause-read : goal.returns-in_err-test-clause-read
returns-in_err-test-clause-read c =
    let v = c.args.tokens.now in
    let s = c.args.s in
    let d = c.in_ok-d.d in
    let l : suc d.left ≡ s.left = omega (arith, c.in_ok-d.ensures.left) in
    let e = c.in_ok-d.ensures.edge in
    let p = err_from_is_err_and c.from_residual-in_err-test.result c.from_residual-in_err-test.ensures.1 in
    rw (p.1, p.2) (guard_lost s.left d.left s.edge d.edge (ahead v s.at) (ahead v c.in-Some.from) l e c.in-Some.ensures.there c.in-Some.ensures.rest _ c.in_err-test.ensures.read)
