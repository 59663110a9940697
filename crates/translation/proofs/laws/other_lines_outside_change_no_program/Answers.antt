-- Proves the law `other_lines_outside_change_no_program`.
use Rattle.translation.proofs.SameProgram.{names_alike, same_program}
use Rattle.translation.proofs.laws.other_lines_outside_change_no_program.Goals as goal

pub returns-clause-names : goal.returns-clause-names
returns-clause-names c = names_alike

pub returns-clause-program : goal.returns-clause-program
returns-clause-program c = same_program
