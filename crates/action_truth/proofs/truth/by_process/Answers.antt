-- Proves what Next says of one process, or of none.
use Rattle.std.proofs.Common.{sym, subst, ◌∙◌}
use Rattle.std.specs.Option.{option_copied}
use Rattle.tla_value.specs.Limits.{bounded}
use Rattle.tla_value.specs.States.{value_of}
use Rattle.module_tree.specs.ActionTruth.{some_way_holds}
use Rattle.module_tree.specs.ProcessPart.{mine_holds}
use Rattle.module_tree.specs.Ways.{steps_of}
use Rattle.module_write.specs.InMemory.{ways_at}
use Rattle.value_forms.specs.Gives.{Tells}
use Rattle.action_truth.specs.declared.formulas.Pair.{Pair}
use Rattle.action_truth.specs.Pairs.{all_acts}
use Rattle.action_truth.proofs.ScopeLaws.{none_bound}
use Rattle.action_truth.proofs.ModuleLaws.{steps_are, mine_is}
use Rattle.action_truth.proofs.truth.by_process.Goals as goal

pub returns-in-Some : goal.returns-in-Some
returns-in-Some c = λ m h.
    let p : Pair = record { asked = c.args.asked.now; from = c.args.from; to = c.args.to } in
    subst (λ (o : _). Tells c.process_holds.result (mine_holds bounded m (value_of p.asked.constants.now) (value_of p.from.now) (value_of p.to.now) (option_copied o))) (sym c.in-Some.is)
    (subst (Tells c.process_holds.result) (mine_is p m h c.in-Some.v.now) c.process_holds.ensures)

pub returns-in-None : goal.returns-in-None
returns-in-None c = λ m h.
    let p : Pair = record { asked = c.args.asked.now; from = c.args.from; to = c.args.to } in
    subst (λ (o : _). Tells c.steps_hold.result (mine_holds bounded m (value_of p.asked.constants.now) (value_of p.from.now) (value_of p.to.now) (option_copied o))) (sym c.in-None.is)
    (subst (Tells c.steps_hold.result)
    ((λ i. some_way_holds bounded (none_bound p c.new-none.result c.new-none.ensures.names c.new-none.ensures.values i) (all_acts p) (steps_of (ways_at p.asked.pool.now (c.deref.ensures.value i)))) ∙ steps_are p m h)
    c.steps_hold.ensures)
