-- Proves that `pc` is at the first label.
use Rattle.std.proofs.Common.{refl, ap, ◌∙◌}
use Rattle.pcal_tree.specs.Calls.{label_value}
use Rattle.step_spots.specs.InMemory.{routine_at}
use Rattle.step_meaning.proofs.FlowLaws.{if_ok}
use Rattle.step_meaning.proofs.ready.first_value.Goals as goal

pub returns : goal.returns
returns c =
    let own = c.args.actor.now.own in
    if_ok c.label_value.result (λ r g P ts n. g P (routine_at ts own) n refl ∙ ap (label_value P (routine_at ts own)) (c.next_target-target.ensures ts)) c.label_value.ensures
