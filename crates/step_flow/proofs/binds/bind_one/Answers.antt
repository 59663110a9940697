-- Proves that one name more is bound.
use Rattle.std.proofs.Common.{[], ◌∷◌, ◌++◌, refl, ap, ◌∙◌}
use Rattle.tla_tree.specs.Tree.{Word}
use Rattle.step_moves.specs.declared.values.Bound.{Bound}
use Rattle.pcal_tree.specs.Scope.{Scope}
use Rattle.tla_value.specs.Limits.{bounded}
use Rattle.step_walks.specs.StepFlows.{flow_binds}
use Rattle.step_moves.specs.Programs.{program_at}
use Rattle.step_moves.specs.StatesOf.{state_of}
use Rattle.step_flow.specs.Ends.{left_of}
use Rattle.step_flow.proofs.BindLaws.{one_more}
use Rattle.step_flow.proofs.binds.bind_one.Goals as goal

pub returns-clause-bound : goal.returns-clause-bound
returns-clause-bound c rest body =
    c.in_ok-value.ensures.taken rest body
    ∙ ap (λ (sc : Scope). flow_binds bounded c.args.at rest body sc (state_of c.args.going.now.state) (left_of c.args.choices.now c.bound_value.new.going))
    (one_more (program_at c.args.runner.now.program) c.args.going.now.bound.names.items c.push.new.self.items c.args.going.now.bound.values.items c.push-2.new.self.items _ _ c.in_ok-value.value
    c.requires.stands.paired
    (c.in_ok-push.ensures.items ∙ ap (λ (b : Bound). b.names.items ++ c.in_ok-name.name ∷ []) c.in_ok-value.ensures.bound ∙ ap (λ (x : Word). c.args.going.now.bound.names.items ++ x ∷ []) (c.in_ok-name.ensures ∙ c.name_of.ensures))
    (c.in_ok-push-2.ensures.items ∙ ap (λ (b : Bound). b.values.items ++ c.in_ok-value.value ∷ []) c.in_ok-value.ensures.bound)
    refl)
