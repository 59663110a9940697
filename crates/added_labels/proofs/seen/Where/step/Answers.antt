-- Proves that what a statement assigns is told.
use Rattle.std.proofs.Common.{sym, subst}
use Rattle.pcal_tree.specs.InMemory.{simple_at}
use Rattle.pcal_tree.specs.OffencesSteps.{effect_with}
use Rattle.pcal_tree.specs.Paths.{Effects}
use Rattle.label_steps.specs.KnownIn.{Assigns}
use Rattle.added_labels.proofs.SightLaws.{effects_there}
use Rattle.added_labels.proofs.seen.Where.step.Goals as goal

pub returns : goal.returns
returns c = λ ms a j n.
    subst (λ (E : Effects). Assigns c.in_ok-step.step (effect_with E (simple_at c.args.pool.now c.args.simple.now) j)) (sym (effects_there c.args.self.now ms c.if-self.false)) (c.in_ok-step.ensures ms a j n.returns)
