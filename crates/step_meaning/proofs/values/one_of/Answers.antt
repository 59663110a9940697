-- Proves that the member is the chosen one.
use Rattle.std.proofs.Common.{drop, refl, sym, ap, ◌∙◌}
use Rattle.tla_value.specs.Value.{Value}
use Rattle.step_walks.specs.Flows.{falls}
use Rattle.step_meaning.proofs.ChoiceLaws.{chosen_taken, chosen_pauses}
use Rattle.step_meaning.proofs.FlowLaws.{paused}
use Rattle.step_meaning.proofs.values.one_of.Goals as goal

pub returns-in_err-i : goal.returns-in_err-i
returns-in_err-i c =
    paused _ c.from_residual.result c.in_err-i.field-0.0 _ _ c.from_residual.ensures
    (chosen_pauses c.args.at c.args.members.now (drop c.args.used.now c.args.choices.now) falls _ c.in_err-i.field-0.0 refl c.in_err-i.ensures.none.0 c.in_err-i.ensures.none.1)

pub returns : goal.returns
returns c =
    chosen_taken c.args.at c.args.members.now c.in_ok-i.i c.index-members-i.result (drop c.args.used.now c.args.choices.now) (drop c.picked.new.used c.args.choices.now) falls c.in_ok-i.ensures.taken.0 c.index-members-i.is c.in_ok-i.ensures.taken.1
    ∙ ap (λ (v : Value). falls v (drop c.picked.new.used c.args.choices.now)) (sym c.in_ok-copied.ensures)
