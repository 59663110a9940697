-- What is kept while empty rows are made: there are as many as were counted.
use Rattle.std.proofs.Common.{◌≡◌, [], replicate}
use Rattle.fairness_lines.proofs.Reaching.{lists}
use Rattle.fairness_lines.proofs.table.no_rows.Given as goal

abbrev pub invariant-loop : goal.invariant-loop
invariant-loop l = lists l.rows.items ≡ replicate l.counter []
