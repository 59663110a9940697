-- Proves that both branches end their step where one of them does.
use Rattle.std.proofs.Common.{◌≡◌, [], true, ◌||◌, sym, ◌∙◌}
use Rattle.action_builder.specs.Settled.{jumps}
use Rattle.step_items.specs.Branching.{to_end}
use Rattle.step_items.proofs.DeskLaws.{desk_kept}
use Rattle.step_items.proofs.RowLaws.{side_grown}
use Rattle.step_items.proofs.SideLaws.{side_finished}
use Rattle.step_items.specs.Writing.{to_write}
use Rattle.step_items.proofs.statements.finish_sides.Goals as goal
use Rattle.step_items.proofs.statements.finish_sides.Goals.{then-sides, else-sides}

pub returns-clause-made : goal.returns-clause-made
returns-clause-made c = λ P u x d a b q r p s.
    let n = c.args.inner.now in
    let old = c.args.pool.now in
    let mid = c.finish.new.pool in
    let end = c.finish-2.new.pool in
    let J = jumps a || jumps b in
    let e : c.if-sides.ends ≡ (jumps a || jumps b) = elim c.if-sides.branch [
      | then-sides w ↦ w.ends-is ∙ w.if-sides.true ∙ (λ i. (sym w.if-sides.true ∙ q.ends) i || jumps b)
      | else-sides w ↦ w.ends-is ∙ r.ends ∙ (λ i. (sym w.if-sides.false ∙ q.ends) i || jumps b)
    ] in
    let t : J ≡ true = sym e ∙ c.if-not-ends.false in
    let one = side_finished P u x n.before.now n.here.now n.exit.now a J old mid c.args.yes.now.items c.finish.new.out.items c.args.sides.now.first c.in_ok-first.first c.if-sides.ends t e
    (c.in_ok-first.ensures.made P u x d mid [] a) q p in
    let later = side_grown P x n.before.now old mid c.in_ok-first.ensures.kept c.args.no.now.items c.args.sides.now.second (to_write P u n.here.now n.exit.now b) (jumps b) c.requires.no r in
    let two = side_finished P u x n.before.now n.here.now n.exit.now b J mid end c.args.no.now.items c.finish-2.new.out.items c.args.sides.now.second c.in_ok-second.second c.if-sides.ends t e
    (c.in_ok-second.ensures.made P u x (desk_kept old mid c.in_ok-first.ensures.kept c.args.desk.now P u x c.requires.desk d) end [] b) later s in
    (side_grown P x n.before.now mid end c.in_ok-second.ensures.kept c.finish.new.out.items (record { assigned = c.in_ok-first.first; ends = c.if-sides.ends }) (to_end P u J n.here.now n.exit.now a) J c.in_ok-first.ensures.within one, two)
