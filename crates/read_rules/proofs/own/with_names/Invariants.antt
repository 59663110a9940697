-- What is kept: the first of what was found and of the offences of the names that were passed.
use Rattle.pcal_tree.specs.Algorithm as tree
use Rattle.pcal_tree.specs.Variables.{declared}
use Rattle.module_outside.specs.SightIn.{Binds}
use Rattle.read_rules.specs.Own.{own_name}
use Rattle.read_rules.proofs.FoundLaws.{Found}
use Rattle.read_rules.proofs.own.with_names.Given as goal

abbrev pub invariant-loop-one : goal.invariant-loop-one
invariant-loop-one l = (p : tree.Process) → Binds l.variables (declared p.variables) → Found (own_name p) l.names l.one-index l.fn.so_far l.found
