-- Proves that expressions are looked at, from one on.
use Rattle.std.proofs.Common.{slice_index_or}
use Rattle.std.proofs.lemmas.List.{get_or_default}
use Rattle.name_rules.proofs.TreeLaws.{each_then, each_done}
use Rattle.name_rules.proofs.found.Found.exprs.Goals as goal

pub loop-i-preserved : goal.loop-i-preserved
loop-i-preserved c = λ k g.
    let e = slice_index_or c.args.es.now c.loop-i.i 0 in
    c.loop-i.invariant k (each_then c.args.pool.now c.loop-i.self c.expr.new.self k c.args.es.now c.loop-i.i e (get_or_default c.args.es.now c.loop-i.i 0 e c.loop-i-test.true) c.loop-i-test.true c.in_ok-expr.ensures g)

pub returns : goal.returns
returns c = c.loop-i.invariant c.loop-i.self (each_done c.args.pool.now c.loop-i.self c.args.es.now c.loop-i.i c.loop-i-test.false)
