-- What the loop of `keys` keeps.
use Rattle.std.proofs.Common.{◌≡◌, drop}
use Rattle.value_forms.proofs.StopLaws.{behind}
use Rattle.eval_visits.specs.Visits.{bounded_keys}
use Rattle.eval_visits.proofs.keys.keys.Given as goal

abbrev pub invariant-loop-row : goal.invariant-loop-row
invariant-loop-row l = behind l.all.items (bounded_keys l.at (drop l.row-index l.rows)) ≡ bounded_keys l.at l.rows
