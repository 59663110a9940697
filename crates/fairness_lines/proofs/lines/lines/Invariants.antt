-- What is kept while formulas are made: those of the demands so far.
use Rattle.std.proofs.Common.{◌≡◌, length, map, take}
use Rattle.tla_tree.specs.Pool.{Keeps}
use Rattle.written_names.specs.Units.{naming_of}
use Rattle.module_write.specs.InMemory.{fairness_at, AllFairnessIn}
use Rattle.fairness_lines.specs.DemandsAt.{all_asked}
use Rattle.fairness_lines.specs.LinesOf.{line_for}
use Rattle.fairness_lines.proofs.lines.lines.Given as goal

abbrev pub invariant-loop-demand : goal.invariant-loop-demand
invariant-loop-demand l =
    Keeps l.fn.pool l.pool
    × AllFairnessIn (length l.pool) l.made.items
    × (map (fairness_at l.pool) l.made.items ≡ map (line_for (naming_of l.draft.naming.now)) (all_asked l.fn.pool (take l.demand-index l.demands)))
