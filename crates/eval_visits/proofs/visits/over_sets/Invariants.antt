-- What the loop of `over_sets` keeps.
use Rattle.std.proofs.Common.{◌≡◌, drop}
use Rattle.tla_pool.specs.FormOf.{groups_of}
use Rattle.eval_visits.specs.Visits.{over_sets}
use Rattle.eval_visits.proofs.SetLemmas.{sets_behind}
use Rattle.eval_visits.proofs.visits.over_sets.Given as goal

abbrev pub invariant-loop-i : goal.invariant-loop-i
invariant-loop-i l = sets_behind l.names.items (over_sets l.place (drop l.i (groups_of l.groups)) (drop l.i l.values)) ≡ over_sets l.place (groups_of l.groups) l.values
