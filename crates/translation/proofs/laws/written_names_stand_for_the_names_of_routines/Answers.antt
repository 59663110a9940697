-- Proves the law `written_names_stand_for_the_names_of_routines`.
use Rattle.translation.proofs.NamesApart.{names_apart_law}
use Rattle.translation.proofs.NamesGiven.{names_given_law}
use Rattle.translation.proofs.laws.written_names_stand_for_the_names_of_routines.Goals as goal

pub returns-clause-apart : goal.returns-clause-apart
returns-clause-apart c = names_apart_law

pub returns-clause-given : goal.returns-clause-given
returns-clause-given c = names_given_law
