-- What is kept: those that were passed are written.
use Rattle.std.proofs.Common.{take}
use Rattle.tla_tree.specs.Pool.{Keeps}
use Rattle.pcal_tree.specs.InMemory.{process_at, past_process}
use Rattle.macro_arguments.proofs.Lists.{MadeOf}
use Rattle.expansion.proofs.AlgorithmLaws.{process_put}
use Rattle.expansion.proofs.algorithm.processes.Given as goal

abbrev pub invariant-loop-one : goal.invariant-loop-one
invariant-loop-one l = Keeps l.fn.pool l.pool × MadeOf past_process process_at (process_put l.macros l.fn.pool) l.pool l.made.items (take l.one-index l.list)
