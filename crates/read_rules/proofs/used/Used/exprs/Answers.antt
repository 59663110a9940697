-- Proves that the names of expressions are met.
use Rattle.std.proofs.Common.{slice_index_or}
use Rattle.std.proofs.lemmas.List.{get_or_default}
use Rattle.read_rules.proofs.BodyLaws.{trees_then, trees_done}
use Rattle.read_rules.proofs.used.Used.exprs.Goals as goal

pub loop-i-init : goal.loop-i-init
loop-i-init c = λ k g. g

pub loop-i-preserved : goal.loop-i-preserved
loop-i-preserved c = λ k g.
    let e = slice_index_or c.args.es.now c.loop-i.i 0 in
    c.loop-i.invariant k (trees_then c.args.pool.now c.loop-i.self c.expr.new.self k c.args.es.now c.loop-i.i e (get_or_default c.args.es.now c.loop-i.i 0 e c.loop-i-test.true) c.loop-i-test.true c.in_ok-expr.ensures g)

pub returns : goal.returns
returns c = c.loop-i.invariant c.loop-i.self (trees_done c.args.pool.now c.loop-i.self c.args.es.now c.loop-i.i c.loop-i-test.false)
