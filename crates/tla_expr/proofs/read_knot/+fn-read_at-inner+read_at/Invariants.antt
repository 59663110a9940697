-- How deep the reader calls itself: by how many forms may open.
use Rattle.std.proofs.Common.{◌+◌}
use Rattle.tla_expr.proofs.read_knot.+fn-read_at-inner+read_at.Given as goal

abbrev pub decreases-inner : goal.decreases-inner
decreases-inner l = l.t.left + l.t.left + 1

abbrev pub decreases-read_at : goal.decreases-read_at
decreases-read_at l = l.s.left + l.s.left
