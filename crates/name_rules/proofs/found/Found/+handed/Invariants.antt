-- Why the calls that go through an argument end.
use Rattle.name_rules.proofs.found.Found.+handed.Given as goal

abbrev pub decreases-handed : goal.decreases-handed
decreases-handed l = l.e
