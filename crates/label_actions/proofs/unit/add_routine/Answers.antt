-- Proves that the own action is behind those of the labels.
use Rattle.std.proofs.Common.{List, [], ◌∷◌, ◌++◌, length, ap, ◌∙◌, append_assoc}
use Rattle.std.proofs.lemmas.Result.{on_ok_weaker}
use Rattle.module_tree.specs.Module as tree
use Rattle.module_write.specs.InMemory.{actions_at}
use Rattle.action_builder.specs.LabelActions.{own_action}
use Rattle.step_forms.specs.Steps.{step_actions}
use Rattle.label_actions.proofs.UnitLaws.{basis_kept, unit_kept, basis_more}
use Rattle.label_actions.proofs.unit.add_routine.Goals as goal

pub returns-clause-made : goal.returns-clause-made
returns-clause-made c =
    let ts = c.args.pool.now in
    let us = c.add_steps.new.pool in
    let said = c.in_ok-add_steps.ensures in
    on_ok_weaker c.add_own.result (λ g P t a one b u.
    g us P t (basis_kept ts us said.kept c.args.basis.now P c.requires.basis b) (unit_kept ts us said.kept c.args.unit.now t c.requires.unit u)
    ∙ ap (λ (l : List tree.Action). l ++ own_action P t ∷ []) (said.made P t a one b u) ∙ append_assoc (actions_at ts c.args.out.now.items) (step_actions P t) (own_action P t ∷ []))
    c.add_own.ensures.made

pub returns-clause-within : goal.returns-clause-within
returns-clause-within c =
    let said = c.in_ok-add_steps.ensures in
    on_ok_weaker c.add_own.result (λ g. g (length c.add_steps.new.pool) (basis_more _ _ said.kept.longer c.args.basis.now c.requires.basis) said.within) c.add_own.ensures.within
