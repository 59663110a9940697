-- What the loop of `write_processes` keeps.
use Rattle.std.proofs.Common.{map}
use Rattle.pcal_tree.specs.Printed.{process_lines}
use Rattle.pcal_tree.specs.InMemory.{process_at}
use Rattle.pcal_tree.specs.Syntaxes.{syntax_of}
use Rattle.syntax_print.proofs.Lines.{Comes}
use Rattle.syntax_print.proofs.write_unit.write_processes.Given as goal

abbrev pub invariant-loop-unit : goal.invariant-loop-unit
invariant-loop-unit l = Comes (λ xs. process_lines (syntax_of l.syntax) (map (process_at l.pool) xs)) l.fn.into l.into l.list l.unit-index
