-- Proves that one assignment to a name is one to a whole variable.
use Rattle.std.proofs.Common.{◌≡◌, length, sym, ap, ◌∙◌, arith}
use Rattle.tla_tree.specs.Tree.{name, node}
use Rattle.tla_tree.specs.Pool.{trees_at}
use Rattle.tla_pool.specs.FormOf.{form_of}
use Rattle.right_sides.proofs.StatementLaws.{is_whole}
use Rattle.right_sides.proofs.statement.whole.Goals as goal

pub returns-in_ok-copied-in-Name-clause-whole : goal.returns-in_ok-copied-in-Name-clause-whole
returns-in_ok-copied-in-Name-clause-whole c =
    let ts = c.args.pool.now in
    let here = c.node.result.now in
    let form : here.form ≡ name c.in_ok-copied-in-Name.field-0 = ap (λ v. v.form) (sym c.behind-pool.view_is) ∙ ap form_of c.in-Name.is ∙ ap name (sym c.in_ok-copied-in-Name.ensures) in
    let one : length c.args.assignments.now ≡ 1 = omega (arith, c.if-assignments-ne1.false) in
    is_whole ts c.args.assignments.now c.in_ok-copied-in-Name.field-0 here.place (trees_at ts here.parts) _ one (c.node.ensures.tree ∙ ap (λ m. node m here.place (trees_at ts here.parts)) form)
