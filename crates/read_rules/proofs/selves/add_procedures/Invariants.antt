-- What is kept: the macros that the procedures call that were passed are marked.
use Rattle.std.proofs.Common.{List, take}
use Rattle.std.specs.List.{flat_map}
use Rattle.tla_tree.specs.Tree.{Tree}
use Rattle.pcal_tree.specs.InMemory.{procedure_at}
use Rattle.read_rules.specs.Calls.{AddsCalls}
use Rattle.read_rules.specs.Selves.{calls_of_procedure}
use Rattle.read_rules.proofs.selves.add_procedures.Given as goal

abbrev pub invariant-loop-procedure : goal.invariant-loop-procedure
invariant-loop-procedure l = (ts : List Tree) → AddsCalls l.fn.called l.called (flat_map (λ p. calls_of_procedure (procedure_at ts p)) (take l.procedure-index l.procedures))
