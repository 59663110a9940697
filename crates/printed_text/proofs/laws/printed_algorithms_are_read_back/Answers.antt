-- Proves the law `printed_algorithms_are_read_back`.
use Rattle.printed_text.proofs.Back.{only, read_p, read_c, one}
use Rattle.printed_text.proofs.laws.printed_algorithms_are_read_back.Goals as goal

pub returns-clause-only : goal.returns-clause-only
returns-clause-only c = only

pub returns-clause-p : goal.returns-clause-p
returns-clause-p c = read_p

pub returns-clause-c : goal.returns-clause-c
returns-clause-c c = read_c

pub returns-clause-one : goal.returns-clause-one
returns-clause-one c = one
