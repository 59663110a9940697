-- What is kept: the first of what was found and of the offences of those that were passed.
use Rattle.pcal_tree.specs.Algorithm as tree
use Rattle.pcal_tree.specs.InMemory.{declaration_at}
use Rattle.pcal_tree.specs.Variables.{declared}
use Rattle.module_outside.specs.SightIn.{Binds}
use Rattle.read_rules.specs.Own.{own_in_declaration}
use Rattle.read_rules.proofs.FoundLaws.{Found}
use Rattle.read_rules.proofs.own.with_declarations.Given as goal

abbrev pub invariant-loop-i : goal.invariant-loop-i
invariant-loop-i l = (p : tree.Process) → Binds l.variables (declared p.variables) → Found (λ d. own_in_declaration p (declaration_at l.pool d)) l.list l.i l.fn.so_far l.found
