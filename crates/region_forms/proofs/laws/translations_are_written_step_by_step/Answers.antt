-- Proves the law `translations_are_written_step_by_step`.
use Rattle.action_builder.specs.WrittenNames.{with_names}
use Rattle.region_forms.proofs.OpenedFairness.{lines_opened}
use Rattle.region_forms.proofs.OpenedRegions.{accepted_openable, region_opened, region_stepped}
use Rattle.region_forms.proofs.laws.translations_are_written_step_by_step.Goals as goal

pub returns-clause-openable : goal.returns-clause-openable
returns-clause-openable c = accepted_openable

pub returns-clause-fairness : goal.returns-clause-fairness
returns-clause-fairness c = lines_opened

pub returns-clause-opened : goal.returns-clause-opened
returns-clause-opened c = region_opened

pub returns-clause-steps : goal.returns-clause-steps
returns-clause-steps c = region_stepped

pub returns-clause-accepted : goal.returns-clause-accepted
returns-clause-accepted c = λ b o g h. region_stepped b (with_names o g) (accepted_openable o g h)
