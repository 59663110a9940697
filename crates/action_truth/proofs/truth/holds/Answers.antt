-- Proves what Next says of a pair.
use Rattle.std.proofs.Common.{subst, ◌∙◌}
use Rattle.tla_value.specs.Limits.{bounded}
use Rattle.module_tree.specs.ActionTruth.{some_way_holds}
use Rattle.module_write.specs.InMemory.{ways_at}
use Rattle.value_forms.specs.Gives.{Tells}
use Rattle.action_truth.specs.declared.formulas.Pair.{Pair}
use Rattle.action_truth.specs.Pairs.{acts_at}
use Rattle.action_truth.proofs.ScopeLaws.{none_bound}
use Rattle.action_truth.proofs.ModuleLaws.{next_is}
use Rattle.action_truth.proofs.truth.holds.Goals as goal

pub returns : goal.returns
returns c = λ m h.
    let p : Pair = record { asked = c.args.asked.now; from = c.args.from; to = c.args.to } in
    subst (Tells c.some_way.result)
    ((λ i. some_way_holds bounded (none_bound p c.new-none.result c.new-none.ensures.names c.new-none.ensures.values i) (acts_at p (c.count.ensures i)) (ways_at p.asked.pool.now (c.deref.ensures.value i))) ∙ next_is p m h)
    c.some_way.ensures
