-- Proves that the names of a unit are those that its routine declares.
use Rattle.std.proofs.Common.{◌≡◌, sym, subst, ◌∙◌}
use Rattle.std.proofs.lemmas.Result.{on_ok_weaker}
use Rattle.pcal_tree.specs.Algorithm.{locals}
use Rattle.pcal_tree.specs.Variables.{declared}
use Rattle.name_bits.specs.NamesIn.{AllApart}
use Rattle.label_actions.proofs.UnitLaws.{unit_names}
use Rattle.label_actions.proofs.unit.add_steps.Goals as goal

pub returns-clause-made : goal.returns-clause-made
returns-clause-made c =
    on_ok_weaker c.add_with_names.result (λ g P t a one b u.
    let names : declared (locals t.routine) ≡ c.in_ok-names.names = unit_names c.args.pool.now c.args.unit.now t u ∙ sym c.in_ok-names.ensures in
    let listed = names ∙ sym c.as_slice.ensures in
    g P t a one b u (listed ∙ sym (c.in_ok-locals.ensures.order (subst AllApart listed (a.locals t.routine one)))) (names ∙ sym c.as_slice-2.ensures))
    c.add_with_names.ensures.made
