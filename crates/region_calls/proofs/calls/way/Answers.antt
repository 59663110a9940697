-- Proves what is asked of `way`.
use Rattle.std.proofs.Common.{◌≡◌, suc, ℕ, arith}
use Rattle.tla_tree.specs.Reader.{Out}
use Rattle.module_tree.specs.Grammar.{WayForm}
use Rattle.module_write.specs.declared.«module».Way.{Way}
use Rattle.expr_nodes.specs.Ahead.{ahead}
use Rattle.expr_nodes.specs.ReadIn.{Told}
use Rattle.region_calls.specs.Told.{IsWay}
use Rattle.region_calls.proofs.CallSteps.{way_read}
use Rattle.region_calls.proofs.calls.way.Goals as goal

pub returns-clause-read : goal.returns-clause-read
returns-clause-read c =
    let v = c.args.tokens.now in
    let s = c.args.s in
    let d = c.in_ok-d.d in
    let l : suc d.left ≡ s.left = omega (arith, c.in_ok-d.ensures.left) in
    let e = c.in_ok-d.ensures.edge in
    way_read (λ (o : Out WayForm). Told (λ (x : Way × ℕ) f. IsWay c.way_from.new.pool x.0 f) (λ x. ahead v x.1) c.way_from.result o)
    s.left d.left s.edge d.edge (ahead v s.at) (ahead v c.in-Some.from) l e c.in-Some.ensures.there c.in-Some.ensures.rest c.way_from.ensures.read
