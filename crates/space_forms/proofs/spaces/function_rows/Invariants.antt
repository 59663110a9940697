-- What the loop of `function_rows` keeps.
use Rattle.std.proofs.Common.{◌≡◌}
use Rattle.space_forms.specs.Spaces.{power_rows}
use Rattle.space_forms.proofs.spaces.function_rows.Given as goal

abbrev pub invariant-loop-i : goal.invariant-loop-i
invariant-loop-i l = l.rows.items ≡ power_rows l._i l.results
