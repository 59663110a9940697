-- What the loop of `write_procedures` keeps.
use Rattle.std.proofs.Common.{map}
use Rattle.pcal_tree.specs.Printed.{procedures}
use Rattle.pcal_tree.specs.InMemory.{procedure_at}
use Rattle.pcal_tree.specs.Syntaxes.{syntax_of}
use Rattle.syntax_print.proofs.Lines.{Comes}
use Rattle.syntax_print.proofs.write_unit.write_procedures.Given as goal

abbrev pub invariant-loop-unit : goal.invariant-loop-unit
invariant-loop-unit l = Comes (λ xs. procedures (syntax_of l.syntax) (map (procedure_at l.pool) xs)) l.fn.into l.into l.list l.unit-index
