-- Proves the law `each_wanted_choice_leaves_less`.
use Rattle.std.proofs.Common.{arith}
use Rattle.written_runs.proofs.RestLaws.{rest_walked, wants, longer, less, next, all_past}
use Rattle.written_runs.proofs.laws.each_wanted_choice_leaves_less.Goals as goal

pub returns-clause-walks : goal.returns-clause-walks
returns-clause-walks c = rest_walked

pub returns-clause-wants : goal.returns-clause-wants
returns-clause-wants c = wants

pub returns-clause-longer : goal.returns-clause-longer
returns-clause-longer c = longer

pub returns-clause-less : goal.returns-clause-less
returns-clause-less c at cs n r e = let h = less cs n r e in omega (arith, h)

pub returns-clause-next : goal.returns-clause-next
returns-clause-next c cs n h = let q = next cs n h in (q.first, q.is, q.troubles)

pub returns-clause-all : goal.returns-clause-all
returns-clause-all c = all_past
