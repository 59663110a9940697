-- Proves that a left side keeps its place, and that a right side is made where the left one was made before.
use Rattle.std.proofs.Common.{sym, ap, ◌∙◌, arith}
use Rattle.tla_tree.specs.Tree.{graft}
use Rattle.tla_tree.specs.Pool.{at}
use Rattle.running.specs.Prepared.{names_put, own_put}
use Rattle.running.proofs.LeftSides.{left_twice}
use Rattle.running.proofs.grafts.assignment.Goals as goal

pub returns-clause-left : goal.returns-clause-left
returns-clause-left c =
    let p = c.args.places.now in
    let left = c.in_ok-left.ensures in
    c.in_ok-right.ensures.kept.same c.in_ok-left.left left.within
    ∙ left.tree
    ∙ sym (left_twice p.own p.local (at c.args.pool.now c.args.one.now.left))

pub returns-clause-right : goal.returns-clause-right
returns-clause-right c =
    let p = c.args.places.now in
    c.in_ok-right.ensures.tree
    ∙ ap (λ t. graft (own_put p.own) (graft (names_put p.local) t)) (c.in_ok-left.ensures.kept.same c.args.one.now.right (omega (arith, c.requires)))
