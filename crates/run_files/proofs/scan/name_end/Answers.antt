-- Proves what is asked of `name_end`.
use Rattle.std.proofs.Common.{sym}
use Rattle.run_files.proofs.Scanned.{name_there, name_none, name_not}
use Rattle.run_files.proofs.scan.name_end.Goals as goal

pub returns-in-Name-clause-value : goal.returns-in-Name-clause-value
returns-in-Name-clause-value c = sym (name_there c.args.text.now c.args.at c.in-Some.part c.in-Some.ensures.part c.in-Name.is)

pub returns-in_default : goal.returns-in_default
returns-in_default c = record { value = name_not c.args.text.now c.args.at c.in-Some.part c.in-Some.ensures.part c.in_default.not-Name; inside = tt }

pub returns-in-None-clause-value : goal.returns-in-None-clause-value
returns-in-None-clause-value c = name_none c.args.text.now c.args.at c.in-None.ensures.part
