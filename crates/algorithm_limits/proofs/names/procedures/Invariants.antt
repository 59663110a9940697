-- What is kept while procedures are counted.
use Rattle.std.proofs.Common.{◌≡◌, map, drop}
use Rattle.pcal_tree.specs.declared.algorithm.Procedure.{Procedure}
use Rattle.algorithm_limits.specs.Counting.{none_of, counted}
use Rattle.algorithm_limits.proofs.names.procedures.Given as goal

abbrev pub invariant-loop-procedure : goal.invariant-loop-procedure
invariant-loop-procedure l = counted l.so_far (map (λ (p : Procedure). p.name) (drop l.procedure-index l.algorithm.procedures.items)) ≡ counted (none_of 100) (map (λ (p : Procedure). p.name) l.algorithm.procedures.items)
