-- What is kept while obligations are made: those of the demands so far.
use Rattle.std.proofs.Common.{◌≡◌, List, map, take}
use Rattle.tla_tree.specs.Tree.{Tree}
use Rattle.pcal_tree.specs.Algorithm.{routines}
use Rattle.pcal_tree.specs.InMemory.{algorithm_at}
use Rattle.written_names.specs.Units.{naming_of}
use Rattle.fairness_lines.specs.DemandsAt.{all_asked}
use Rattle.fairness_lines.specs.LinesOf.{obligation_for, every_in, obligation_seen}
use Rattle.fairness_lines.proofs.obligations.each.Given as goal

abbrev pub invariant-loop-demand : goal.invariant-loop-demand
invariant-loop-demand l =
    (ts : List Tree) → map obligation_seen l.made.items
    ≡ map (obligation_for (naming_of l.draft.naming.now) (every_in (naming_of l.draft.naming.now) (routines (algorithm_at ts l.draft.algorithm.now)))) (all_asked ts (take l.demand-index l.demands))
