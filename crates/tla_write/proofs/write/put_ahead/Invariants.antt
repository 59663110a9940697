-- What the loop of `put_ahead` keeps: the items so far are ahead.
use Rattle.std.proofs.Common.{take}
use Rattle.tla_write.specs.Ahead.{PutsAhead}
use Rattle.tla_write.proofs.write.put_ahead.Given as goal

abbrev pub invariant-loop-item : goal.invariant-loop-item
invariant-loop-item l = PutsAhead l.fn.of (take l.item-index l.plan) l.fn.ahead.items l.ahead.items
