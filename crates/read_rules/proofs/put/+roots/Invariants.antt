-- Why the calls that look for the variable of a left side end.
use Rattle.std.proofs.Common.{◌+◌, ◌*◌}
use Rattle.read_rules.proofs.put.+roots.Given as goal

abbrev pub decreases-root : goal.decreases-root
decreases-root l = 2 * l.e + 1

abbrev pub decreases-root_of_first : goal.decreases-root_of_first
decreases-root_of_first l = 2 * l.past
