-- Proves the law `rewritten_files_are_refused_by_few_rules`.
use Rattle.file_answer.proofs.Refused.{refused_for_few, refused_for_size}
use Rattle.file_answer.proofs.laws.rewritten_files_are_refused_by_few_rules.Goals as goal

pub returns-clause-few : goal.returns-clause-few
returns-clause-few c = refused_for_few

pub returns-clause-size : goal.returns-clause-size
returns-clause-size c = refused_for_size
