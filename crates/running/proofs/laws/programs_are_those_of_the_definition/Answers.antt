-- Proves the law `programs_are_those_of_the_definition`.
use Rattle.running.proofs.ProgramLaws.{same_program, program_opens, program_apart}
use Rattle.running.proofs.StandingLaws.{program_variables, grounds_stand}
use Rattle.running.proofs.laws.programs_are_those_of_the_definition.Goals as goal

pub returns-clause-program : goal.returns-clause-program
returns-clause-program c = same_program

pub returns-clause-openable : goal.returns-clause-openable
returns-clause-openable c = program_opens

pub returns-clause-apart : goal.returns-clause-apart
returns-clause-apart c = program_apart

pub returns-clause-variables : goal.returns-clause-variables
returns-clause-variables c = program_variables

pub returns-clause-grounds : goal.returns-clause-grounds
returns-clause-grounds c = grounds_stand
