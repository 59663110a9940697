-- What is kept while labels are listed: those that are left give the whole, and numbers stay below a bound.
use Rattle.std.proofs.Common.{◌≡◌, ◌++◌, ◌<◌, ℕ, List, map, drop}
use Rattle.tla_tree.specs.Tree.{Tree}
use Rattle.fairness_lines.specs.Asked.{of_label}
use Rattle.fairness_lines.specs.DemandsAt.{takers_at, all_asked, AllDemandsIn}
use Rattle.fairness_lines.proofs.demands.add_labels.Given as goal

abbrev pub invariant-loop-name : goal.invariant-loop-name
invariant-loop-name l =
    ((ts : List Tree) → all_asked ts l.into.items ++ map (of_label (takers_at ts l.owner) l.owner.number l.unit) (drop l.name-index l.names) ≡ all_asked ts l.fn.into.items ++ map (of_label (takers_at ts l.owner) l.owner.number l.unit) l.names)
    × ((m : ℕ) → AllDemandsIn m l.fn.into.items → l.owner.identity < m → AllDemandsIn m l.into.items)
