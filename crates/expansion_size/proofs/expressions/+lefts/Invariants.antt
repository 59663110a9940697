-- Why the calls that go through a left side end: what stands for a name is in fewer calls, and parts have smaller numbers.
use Rattle.std.proofs.Common.{◌+◌, ◌*◌, length}
use Rattle.expansion_size.specs.FramesIn.{calls_around}
use Rattle.expansion_size.proofs.expressions.+lefts.Given as goal

abbrev pub decreases-subscripts : goal.decreases-subscripts
decreases-subscripts l = 2 * (calls_around l.frames.now * length l.pool.now + l.e) + 1

abbrev pub decreases-strict_subscripts : goal.decreases-strict_subscripts
decreases-strict_subscripts l = 2 * (calls_around l.frames.now * length l.pool.now + l.past)
