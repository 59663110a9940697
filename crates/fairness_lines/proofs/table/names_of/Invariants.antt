-- What is kept while names are listed: those of the procedures so far.
use Rattle.std.proofs.Common.{◌≡◌, map, take}
use Rattle.fairness_lines.proofs.table.names_of.Given as goal

abbrev pub invariant-loop-procedure : goal.invariant-loop-procedure
invariant-loop-procedure l = l.names ≡ map (λ p. p.name.word) (take l.procedure-index l.procedures)
