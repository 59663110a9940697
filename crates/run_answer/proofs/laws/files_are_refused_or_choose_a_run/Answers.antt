-- Proves the law `files_are_refused_or_choose_a_run`.
use Rattle.run_answer.proofs.Choices.{refused_or_chosen, not_both, refused_once}
use Rattle.run_answer.proofs.laws.files_are_refused_or_choose_a_run.Goals as goal

pub returns-clause-some : goal.returns-clause-some
returns-clause-some c = refused_or_chosen

pub returns-clause-not_both : goal.returns-clause-not_both
returns-clause-not_both c = not_both

pub returns-clause-once : goal.returns-clause-once
returns-clause-once c = refused_once
