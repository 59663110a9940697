-- What the loop of `many_functions` keeps.
use Rattle.std.specs.Prelude.{◌^◌}
use Rattle.value_forms.specs.Counts.{Counts}
use Rattle.space_forms.proofs.spaces.many_functions.Given as goal

abbrev pub invariant-loop-i : goal.invariant-loop-i
invariant-loop-i l = Counts l.many (l.results ^ l._i)
