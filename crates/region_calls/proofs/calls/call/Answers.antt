-- Proves what is asked of `call`.
use Rattle.std.proofs.Common.{◌≡◌, suc, ℕ, arith}
use Rattle.tla_tree.specs.Reader.{Out}
use Rattle.module_tree.specs.Grammar.{CallForm}
use Rattle.module_write.specs.declared.«module».Call.{Call}
use Rattle.expr_nodes.specs.Ahead.{ahead}
use Rattle.expr_nodes.specs.ReadIn.{Told}
use Rattle.region_calls.specs.Told.{IsCall}
use Rattle.region_calls.proofs.CallSteps.{call_read}
use Rattle.region_calls.proofs.calls.call.Goals as goal

pub returns-clause-read : goal.returns-clause-read
returns-clause-read c =
    let v = c.args.tokens.now in
    let s = c.args.s in
    let d = c.in_ok-d.d in
    let l : suc d.left ≡ s.left = omega (arith, c.in_ok-d.ensures.left) in
    let e = c.in_ok-d.ensures.edge in
    call_read (λ (o : Out CallForm). Told (λ (x : Call × ℕ) f. IsCall c.call_from.new.pool x.0 f) (λ x. ahead v x.1) c.call_from.result o)
    s.left d.left s.edge d.edge (ahead v s.at) _ (ahead v c.in-Some.from) _ l e c.in_ok-title.ensures.value c.in-Some.ensures.there c.in-Some.ensures.rest c.call_from.ensures.read
