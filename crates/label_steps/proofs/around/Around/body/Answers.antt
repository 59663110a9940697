-- Proves that the first variable that is assigned twice in statements is found.
use Rattle.std.proofs.Common.{refl}
use Rattle.label_steps.specs.AroundIn.{effects_around}
use Rattle.label_steps.proofs.around.Around.body.Goals as goal

pub returns-clause-path : goal.returns-clause-path
returns-clause-path c = λ ms k p h. (c.in_ok-list.ensures.passed ms k (effects_around c.args.self.now ms) (λ st f. refl) p h).path

pub returns-clause-first : goal.returns-clause-first
returns-clause-first c = λ ms k p h. (c.in_ok-list.ensures.passed ms k (effects_around c.args.self.now ms) (λ st f. refl) p h).met.first
