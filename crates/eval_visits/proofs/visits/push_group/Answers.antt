-- Proves what is asked of `push_group`.
use Rattle.std.proofs.Common.{◌∙◌, ap, ◌++◌, ◌∷◌, []}
use Rattle.tla_tree.specs.Tree.{Name}
use Rattle.tla_value.specs.Value.{values_in}
use Rattle.eval_visits.proofs.SetLemmas.{over_one_is, push_next}
use Rattle.eval_visits.proofs.visits.push_group.Goals as goal

pub loop-x-preserved : goal.loop-x-preserved
loop-x-preserved c =
    let x = c.x-item.result in
    c.in_ok-push.ensures.items
    ∙ ap (λ v. c.loop-x.names.items ++ v ∷ []) (over_one_is x c.in_ok-name.name c.args.members.now c.in_ok-members.members.items (c.in_ok-name.ensures ∙ ap (λ (n : Name). n.word) c.x.view_is) c.in_ok-members.ensures)
    ∙ push_next c.args.names.now.items c.loop-x.names.items c.args.group.now (values_in c.args.members.now) c.loop-x.x-index x c.loop-x-test.true c.x-item.is c.loop-x.invariant
