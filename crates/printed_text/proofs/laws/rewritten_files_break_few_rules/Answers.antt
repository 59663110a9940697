-- Proves the law `rewritten_files_break_few_rules`.
use Rattle.printed_text.proofs.Rewritten.{breaks_few, fine_without}
use Rattle.printed_text.proofs.laws.rewritten_files_break_few_rules.Goals as goal

pub returns-clause-few : goal.returns-clause-few
returns-clause-few c = breaks_few

pub returns-clause-fine : goal.returns-clause-fine
returns-clause-fine c = fine_without
