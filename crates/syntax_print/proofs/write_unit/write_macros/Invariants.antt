-- What the loop of `write_macros` keeps.
use Rattle.std.proofs.Common.{map}
use Rattle.pcal_tree.specs.Printed.{macros}
use Rattle.pcal_tree.specs.InMemory.{macro_at}
use Rattle.pcal_tree.specs.Syntaxes.{syntax_of}
use Rattle.syntax_print.proofs.Lines.{Comes}
use Rattle.syntax_print.proofs.write_unit.write_macros.Given as goal

abbrev pub invariant-loop-unit : goal.invariant-loop-unit
invariant-loop-unit l = Comes (λ xs. macros (syntax_of l.syntax) (map (macro_at l.pool) xs)) l.fn.into l.into l.list l.unit-index
