-- What is kept: so many units without names.
use Rattle.std.proofs.Common.{◌≡◌, replicate}
use Rattle.written_names.specs.Units.{no_names}
use Rattle.written_names.proofs.give.nameless.Given as goal

abbrev pub invariant-loop-i : goal.invariant-loop-i
invariant-loop-i l = l.units.items ≡ replicate l._i no_names
