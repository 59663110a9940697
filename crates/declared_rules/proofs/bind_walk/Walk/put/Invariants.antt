-- What is kept: what is left still gives the whole, behind what was found first.
use Rattle.std.proofs.Common.{◌≡◌, drop}
use Rattle.tla_tree.specs.Tree.{Trees}
use Rattle.algorithm_answer.specs.Joined.{joined}
use Rattle.pcal_tree.specs.OffencesRebind.{any_name, putting_in}
use Rattle.declared_rules.specs.declared.bind_walk.Walk.{Walk}
use Rattle.declared_rules.specs.Gathering.{lists_of, each_pieces}
use Rattle.declared_rules.specs.Telling.{held_where, Adds}
use Rattle.declared_rules.proofs.bind_walk.Walk.put.Given as goal

abbrev pub invariant-loop-binding : goal.invariant-loop-binding
invariant-loop-binding l =
    (ts : Trees) → lists_of l.args ≡ each_pieces ts → (k : Walk) → Adds l.sight any_name l.self k (λ ms r. held_where ms (putting_in l.params ts r r) (drop l.binding-index l.list))
    → Adds l.sight any_name (record { bound = l.fn.self.bound; first = joined l.fn.self.first l.found.first; free = l.fn.self.free }) k (λ ms r. held_where ms (putting_in l.params ts r r) l.list)
