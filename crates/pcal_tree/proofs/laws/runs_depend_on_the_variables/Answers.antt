-- Proves the law `runs_depend_on_the_variables`.
use Rattle.std.proofs.Common.{sym, ◌∙◌}
use Rattle.tla_value.specs.Value.{fault}
use Rattle.pcal_tree.proofs.SameSteps.{step_same, stutters_same, trouble_same, sound_same, first_trouble_same, run_same}
use Rattle.pcal_tree.proofs.SameStarts.{allowed_same, returns_placed}
use Rattle.pcal_tree.proofs.laws.runs_depend_on_the_variables.Goals as goal

pub returns-clause-steps : goal.returns-clause-steps
returns-clause-steps c = step_same

pub returns-clause-stutters : goal.returns-clause-stutters
returns-clause-stutters c = stutters_same

pub returns-clause-sound : goal.returns-clause-sound
returns-clause-sound c = sound_same

pub returns-clause-faults : goal.returns-clause-faults
returns-clause-faults c = λ P placed s u a v actor kind at h. trouble_same P placed s u a v (fault kind at) actor h

pub returns-clause-first : goal.returns-clause-first
returns-clause-first c = first_trouble_same

pub returns-clause-scripts : goal.returns-clause-scripts
returns-clause-scripts c = run_same

pub returns-clause-initial : goal.returns-clause-initial
returns-clause-initial c = λ P s u a h. sym (allowed_same P s u a) ∙ h

pub returns-clause-starts : goal.returns-clause-starts
returns-clause-starts c = λ P s u a k h. sym (allowed_same P s u a) ∙ h

pub returns-clause-rule : goal.returns-clause-rule
returns-clause-rule c = returns_placed
