-- Proves what is asked of `put`.
use Rattle.std.proofs.Common.{arith, sym, ap, length}
use Rattle.tla_value.proofs.ValueLists.{put-less, put-equal, put-greater, put-end}
use Rattle.tla_value.proofs.compare.put.Goals as goal

pub returns-in-Less-clause-ok : goal.returns-in-Less-clause-ok
returns-in-Less-clause-ok c =
    rw c.in_ok-insert-in-Less.ensures.items (put-less c.loop-i.values.items c.loop-i.i c.loop-i.v c.index.result.now _ (omega (arith, c.loop-i.values.ok.0)) c.index.ensures c.loop-i.invariant.2 (sym c.in-Less.ensures))

pub returns-in-Equal-clause-ok : goal.returns-in-Equal-clause-ok
returns-in-Equal-clause-ok c =
    put-equal c.loop-i.values.items c.loop-i.i c.loop-i.v c.index.result.now _ (omega (arith, c.loop-i.values.ok.0)) c.index.ensures c.loop-i.invariant.2 (sym c.in-Equal.ensures)

pub loop-i-preserved : goal.loop-i-preserved
loop-i-preserved c =
    (c.loop-i.invariant.0, c.loop-i.invariant.1, put-greater c.loop-i.values.items c.loop-i.i c.loop-i.v c.index.result.now _ (omega (arith, c.loop-i.values.ok.0)) c.index.ensures c.loop-i.invariant.2 (sym c.in-Greater.ensures))

pub returns-clause-ok : goal.returns-clause-ok
returns-clause-ok c =
    rw c.in_ok-push.ensures.items (put-end c.loop-i.values.items c.loop-i.i c.loop-i.v _ (omega (arith, c.loop-i.values.ok.0, ap length c.loop-i.invariant.1, c.args.values.now.ok.0)) c.loop-i.invariant.2)
