-- Why the calls that go through a left side end.
use Rattle.name_rules.proofs.found.Found.+lefts.Given as goal

abbrev pub decreases-left : goal.decreases-left
decreases-left l = l.e
