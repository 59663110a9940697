-- Proves what Init says of a state.
use Rattle.std.proofs.Common.{map, subst, ◌∙◌}
use Rattle.tla_tree.specs.Pool.{at}
use Rattle.tla_value.specs.Limits.{bounded}
use Rattle.module_tree.specs.ModuleTruth.{all_hold}
use Rattle.value_forms.specs.Gives.{Tells}
use Rattle.action_truth.specs.declared.formulas.Pair.{Pair}
use Rattle.action_truth.proofs.ScopeLaws.{none_bound}
use Rattle.action_truth.proofs.ModuleLaws.{init_is}
use Rattle.action_truth.proofs.truth.starts.Goals as goal

pub returns : goal.returns
returns c = λ m h.
    let p : Pair = record { asked = c.args.asked.now; from = c.args.state; to = c.args.asked.now.nothing } in
    subst (Tells c.all_true.result)
    ((λ i. all_hold bounded (none_bound p c.new-none.result c.new-none.ensures.names c.new-none.ensures.values i) (map (at p.asked.pool.now) (c.deref.ensures.value i))) ∙ init_is p m h c.requires.ready.nothing)
    c.all_true.ensures
