-- What the loop of `next_choice` keeps.
use Rattle.eval_visits.specs.Visits.{turns_left}
use Rattle.eval_visits.proofs.WalkLemmas.{IsLeft}
use Rattle.eval_visits.proofs.walk.next_choice.Given as goal

abbrev pub invariant-loop-next : goal.invariant-loop-next
invariant-loop-next l = IsLeft l.names l.fn.left.items l.left.items

abbrev pub decreases-loop-next : goal.decreases-loop-next
decreases-loop-next l = turns_left l.names l.left.items
