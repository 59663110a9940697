-- Proves the law `steps_can_be_built`.
use Rattle.build_premises.proofs.BuiltSteps.{body_built, label_built, begin_built, step_built}
use Rattle.build_premises.proofs.laws.steps_can_be_built.Goals as goal

pub returns-clause-bodies : goal.returns-clause-bodies
returns-clause-bodies c = body_built

pub returns-clause-labels : goal.returns-clause-labels
returns-clause-labels c = label_built

pub returns-clause-begins : goal.returns-clause-begins
returns-clause-begins c = begin_built

pub returns-clause-steps : goal.returns-clause-steps
returns-clause-steps c = step_built
