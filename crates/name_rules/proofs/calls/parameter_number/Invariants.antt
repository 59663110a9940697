-- What is kept: what is left still gives the number.
use Rattle.std.proofs.Common.{◌≡◌, drop}
use Rattle.name_rules.specs.Calling.{parameter_number}
use Rattle.name_rules.proofs.CallLaws.{shifted}
use Rattle.name_rules.proofs.calls.parameter_number.Given as goal

abbrev pub invariant-loop-i : goal.invariant-loop-i
invariant-loop-i l = shifted l.i (parameter_number (drop l.i l.params) l.name) ≡ parameter_number l.params l.name
