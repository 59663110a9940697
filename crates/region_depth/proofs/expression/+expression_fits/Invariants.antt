-- Why the calls that look at an expression end, and what is kept while its parts are gone through.
use Rattle.std.proofs.Common.{◌-◌}
use Rattle.region_depth.proofs.Rows.{HaveRoom}
use Rattle.region_depth.proofs.Lists.{of_parts}
use Rattle.region_depth.proofs.expression.+expression_fits.Given as goal

abbrev pub decreases-expression_fits : goal.decreases-expression_fits
decreases-expression_fits l = 1202 - l.depth

abbrev pub invariant-loop-part : goal.invariant-loop-part
invariant-loop-part l = HaveRoom (of_parts l.pool) l.depth l.part-items l.part-index
