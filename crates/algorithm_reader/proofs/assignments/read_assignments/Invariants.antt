-- What the loop keeps: the assignments so far, and the pool that grows.
use Rattle.std.proofs.Common.{ℕ, suc, ◌≤◌, ◌-◌, length}
use Rattle.tla_tree.specs.Pool.{Keeps}
use Rattle.pcal_tree.specs.InMemory.{past_assignment}
use Rattle.algorithm_reader.specs.PartsRead.{parts_in, StepLess}
use Rattle.algorithm_reader.specs.SimpleRead.{assignment_at}
use Rattle.algorithm_reader.proofs.Gathered.{InPool}
use Rattle.algorithm_reader.proofs.GatheredAssignments.{step_more, members}
use Rattle.algorithm_reader.proofs.assignments.read_assignments.Given as goal

abbrev pub invariant-loop-list : goal.invariant-loop-list
invariant-loop-list l =
    record {
      in_pool : (n : ℕ) → StepLess l.tokens l.at n → InPool (step_more (parts_in l.tokens)) members assignment_at past_assignment l.tokens l.pool (suc n) l.at l.from l.list.items;
      kept : Keeps l.fn.pool l.pool;
      inside : l.from ≤ length l.tokens.items.items;
      further : l.at ≤ l.from;
    }

abbrev pub decreases-loop-list : goal.decreases-loop-list
decreases-loop-list l = length l.tokens.items.items - l.from
