-- What is kept: what is left of the list still gives the whole.
use Rattle.std.proofs.Common.{◌≡◌, map, drop}
use Rattle.tla_token.specs.Limits.{deepest_statement}
use Rattle.pcal_tree.specs.InMemory.{procedure_at}
use Rattle.macro_expand.specs.Measured.{of_each, of_procedure}
use Rattle.expansion_size.specs.Budget.{budget, calls}
use Rattle.expansion_size.specs.FramesIn.{put_by, newest_first}
use Rattle.expansion_size.proofs.algorithm.procedures.Given as goal

abbrev pub invariant-loop-one : goal.invariant-loop-one
invariant-loop-one l =
    of_each (budget (put_by l.pool l.frames)) (of_procedure (budget (put_by l.pool l.frames)) (calls (newest_first l.pool l.macros) (put_by l.pool l.frames))) (map (procedure_at l.pool) (drop l.one-index l.list)) deepest_statement l.so_far
    ≡ of_each (budget (put_by l.pool l.frames)) (of_procedure (budget (put_by l.pool l.frames)) (calls (newest_first l.pool l.macros) (put_by l.pool l.frames))) (map (procedure_at l.pool) l.list) deepest_statement l.fn.left
