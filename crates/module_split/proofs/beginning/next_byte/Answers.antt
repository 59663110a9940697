use Rattle.std.proofs.lemmas.List.{take_rest}
use Rattle.module_split.proofs.BeginningPlaces.{found_there, found_nowhere}
use Rattle.module_split.proofs.beginning.next_byte.Goals as goal

pub returns-in-Some-clause-skipped : goal.returns-in-Some-clause-skipped
returns-in-Some-clause-skipped c = found_there c.args.byte c.args.text.now c.args.at c.in-Some.n (rw c.in-Some.is at (rw take_rest at c.memchr.ensures))

pub returns-in-None-clause-skipped : goal.returns-in-None-clause-skipped
returns-in-None-clause-skipped c = found_nowhere c.args.byte c.args.text.now c.args.at c.if-at-text.false (rw c.in-None.is at (rw take_rest at c.memchr.ensures))
