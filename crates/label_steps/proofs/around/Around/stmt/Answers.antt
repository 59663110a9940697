-- Proves that the first variable that is assigned twice in a statement is found.
use Rattle.std.proofs.Common.{refl}
use Rattle.label_steps.proofs.WalksLaws.{some_partner}
use Rattle.label_steps.specs.AroundIn.{effects_around}
use Rattle.label_steps.proofs.around.Around.stmt.Goals as goal

pub returns-clause-path : goal.returns-clause-path
returns-clause-path c = λ s st e ms k p h. (c.in_ok-past.ensures.passed s st e ms k (effects_around c.args.self.now ms) (λ st f. refl) p h (some_partner s c.args.returns).0 (some_partner s c.args.returns).1).path

pub returns-clause-first : goal.returns-clause-first
returns-clause-first c = λ s st e ms k p h j r. (c.in_ok-past.ensures.passed s st e ms k (effects_around c.args.self.now ms) (λ st f. refl) p h j r).met.first
