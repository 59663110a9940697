-- Why the search ends, since each choice leaves less, and what its loop keeps: the choices before this one were tried, and met no trouble.
use Rattle.written_runs.specs.Searches.{rest_after}
use Rattle.followed_runs.specs.Tries.{step_by}
use Rattle.followed_runs.proofs.SearchLaws.{left_weight, TriedTo}
use Rattle.followed_runs.proofs.searching.+trouble_behind.Given as goal

abbrev pub decreases-trouble_behind : goal.decreases-trouble_behind
decreases-trouble_behind l = left_weight (rest_after (step_by l.party.now l.actor.now l.state.now) l.choices.now)

abbrev pub invariant-loop-i : goal.invariant-loop-i
invariant-loop-i l = TriedTo (step_by l.party l.actor l.state) l.choices l.i
