-- Proves that a statement with none in it is passed.
use Rattle.std.proofs.Common.{◌||◌, Bool, ap, ◌∙◌}
use Rattle.tla_token.specs.declared.place.Place.{Place}
use Rattle.pcal_tree.specs.InMemory.{simple_at}
use Rattle.pcal_tree.specs.Offences.{first}
use Rattle.pcal_tree.specs.OffencesSteps.{due_after, due_offence}
use Rattle.algorithm_answer.specs.Joined.{joined}
use Rattle.label_steps.specs.declared.due.Walk.{Walk}
use Rattle.label_steps.specs.Walking.{rule_due}
use Rattle.label_steps.proofs.WalkLaws.{simple_passes, out_behind}
use Rattle.label_steps.proofs.due.past_simple.Goals as goal

pub returns : goal.returns
returns c = λ ts s at.
    simple_passes ts c.args.walk c.out.result s c.args.simple.now c.due-first.result c.pairs.result (c.pairs.ensures ts s)
    (c.due-first.ensures ∙ ap (λ (p : Place). joined c.args.walk.first (first (due_offence (rule_due c.args.walk.before c.pairs.result) p))) at)
    (λ p. out_behind c.out.result c.behind.result p (due_after (simple_at ts c.args.simple.now) p) (ap (λ (w : Walk). w.before) c.out.ensures) (c.behind.ensures ts p))
    (ap (λ (w : Walk). w.first) c.out.ensures ∙ ap (λ (w : Walk). w.first) c.into-inner.ensures)
    (ap (λ (w : Walk). w.holds) c.out.ensures ∙ ap (λ (w : Walk). c.args.walk.holds || w.holds) c.into-inner.ensures ∙ ap (λ (b : Bool). c.args.walk.holds || b) (c.jumps.ensures ts))
