-- What the loop of `over_made_parts` keeps: the form, and the numbers of the grafted parts so far.
use Rattle.std.proofs.Common.{◌≡◌, take, map}
use Rattle.tla_tree.specs.Tree.{graft}
use Rattle.tla_pool.specs.FormOf.{form_of}
use Rattle.tla_tree.specs.Pool.{at}
use Rattle.tla_tree.proofs.PoolNumbers.{Have}
use Rattle.tla_pool.proofs.graft.over_made_parts.Given as goal

abbrev pub invariant-loop-part : goal.invariant-loop-part
invariant-loop-part g l = (form_of l.form ≡ form_of l.initial.form) × Have l.pool l.others.items (map (graft (g.G.Grafting.graft l.g l.fn.pool)) (map (at l.fn.pool) (take l.part-index l.part-items)))
