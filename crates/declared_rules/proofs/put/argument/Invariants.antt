-- What is kept: none of the parameters that were passed has the name.
use Rattle.std.proofs.Common.{◌≡◌, drop}
use Rattle.declared_rules.specs.Gathering.{lists_of}
use Rattle.declared_rules.specs.Keeping.{argument_of}
use Rattle.declared_rules.proofs.put.argument.Given as goal

abbrev pub invariant-loop-i : goal.invariant-loop-i
invariant-loop-i l = argument_of (drop l.i l.params) (lists_of (drop l.i l.args)) l.name ≡ argument_of l.params (lists_of l.args) l.name
