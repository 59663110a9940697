-- Proves the law `next_is_true_of_the_steps`.
use Rattle.translation.proofs.NextLaw.{next_law, faults_law, kept_law, faults_kept_law, set_faults_law, canonical_steps}
use Rattle.translation.proofs.laws.next_is_true_of_the_steps.Goals as goal

pub returns-clause-region : goal.returns-clause-region
returns-clause-region c = next_law

pub returns-clause-kept : goal.returns-clause-kept
returns-clause-kept c = kept_law

pub returns-clause-faults : goal.returns-clause-faults
returns-clause-faults c = faults_law

pub returns-clause-faults_kept : goal.returns-clause-faults_kept
returns-clause-faults_kept c = faults_kept_law

pub returns-clause-set_faults : goal.returns-clause-set_faults
returns-clause-set_faults c = set_faults_law

pub returns-clause-canonical : goal.returns-clause-canonical
returns-clause-canonical c = canonical_steps
