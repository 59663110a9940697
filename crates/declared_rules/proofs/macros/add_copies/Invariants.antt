-- What is kept: those that were passed.
use Rattle.std.proofs.Common.{◌≡◌, [], take}
use Rattle.declared_rules.proofs.macros.add_copies.Given as goal

abbrev pub invariant-loop-name : goal.invariant-loop-name
invariant-loop-name l = l.fn.list.items ≡ [] → l.list.items ≡ take l.name-index l.names
