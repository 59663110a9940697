-- What is kept: what is left of the list still gives the whole.
use Rattle.std.proofs.Common.{◌≡◌, map, drop}
use Rattle.tla_token.specs.Limits.{deepest_statement}
use Rattle.pcal_tree.specs.InMemory.{process_at}
use Rattle.macro_expand.specs.Measured.{of_each, of_process}
use Rattle.expansion_size.specs.Budget.{budget, calls}
use Rattle.expansion_size.specs.FramesIn.{put_by, newest_first}
use Rattle.expansion_size.proofs.algorithm.processes.Given as goal

abbrev pub invariant-loop-one : goal.invariant-loop-one
invariant-loop-one l =
    of_each (budget (put_by l.pool l.frames)) (of_process (budget (put_by l.pool l.frames)) (calls (newest_first l.pool l.macros) (put_by l.pool l.frames))) (map (process_at l.pool) (drop l.one-index l.list)) deepest_statement l.so_far
    ≡ of_each (budget (put_by l.pool l.frames)) (of_process (budget (put_by l.pool l.frames)) (calls (newest_first l.pool l.macros) (put_by l.pool l.frames))) (map (process_at l.pool) l.list) deepest_statement l.fn.left
