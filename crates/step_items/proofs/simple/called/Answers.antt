-- Proves that a call is written with what follows it.
use Rattle.std.proofs.Common.{IfOk, subst}
use Rattle.tla_tree.specs.Tree.{Word, grafts}
use Rattle.tla_tree.specs.Pool.{trees_at}
use Rattle.module_tree.specs.Formulas.{self}
use Rattle.pcal_tree.specs.Algorithm.{Statements}
use Rattle.pcal_tree.specs.Expand.{graft_all}
use Rattle.pcal_tree.specs.InMemory.{statements_at}
use Rattle.pcal_tree.specs.Run.{partner_of}
use Rattle.action_builder.specs.WrittenNames.{renames}
use Rattle.right_sides.specs.After.{put_items}
use Rattle.step_items.specs.Writing.{jumps_of, own_of, Plain, Writes}
use Rattle.step_items.proofs.simple.called.Goals as goal

pub returns-clause-made : goal.returns-clause-made
returns-clause-made c = λ P u x h s.
    let ts = c.args.pool.now in
    let j = partner_of (statements_at ts c.args.rest.now) in
    let of : Word → Statements = λ l. graft_all (own_of P) ((jumps_of P u).call s c.args.name.now (grafts (renames P u) (trees_at ts c.args.arguments.now)) l j) in
    subst (λ (l : Word). Plain P (of l) → IfOk c.call.result (λ r. Writes P (put_items self x) ts c.call.new.pool c.args.out.now.items c.call.new.out.items c.args.around.now.before.now r (of l)))
    (c.follow-label.ensures ts h.empty) (c.call.ensures.made P u x h s j (c.partner_in-with.ensures ts))
