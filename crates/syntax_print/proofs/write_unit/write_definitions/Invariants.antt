-- What the loop of `write_definitions` keeps.
use Rattle.pcal_tree.specs.Printed.{definitions}
use Rattle.pcal_tree.specs.InMemory.{definitions_at}
use Rattle.syntax_print.proofs.Lines.{Comes}
use Rattle.syntax_print.proofs.write_unit.write_definitions.Given as goal

abbrev pub invariant-loop-definition : goal.invariant-loop-definition
invariant-loop-definition l = Comes (λ xs. definitions (definitions_at l.pool xs)) l.fn.into l.into l.list l.definition-index
