-- Demands in memory, where the pool has these trees; and that their numbers are of the pool.
use Rattle.std.specs.Prelude.{ℕ, ◌<◌, List, map, cond}
use Rattle.std.specs.List.{AllByRecursion}
use Rattle.tla_tree.specs.Tree.{Tree}
use Rattle.tla_tree.specs.Pool.{at}
use Rattle.pcal_tree.specs.InMemory.{statements_at}
use Rattle.pcal_tree.specs.Takers.{Takers, each_of, single}
use Rattle.fairness_lines.specs.declared.demands.Owner.{Owner}
use Rattle.fairness_lines.specs.declared.demands.Demand.{Demand}
use Rattle.fairness_lines.specs.declared.demands.Demand.TheVariants as demand
use Rattle.fairness_lines.specs.Asked.{Asked, of_all, of_routine, of_label}

abbrev pub takers_at : List Tree → Owner → Takers
takers_at ts o = cond o.several (each_of (at ts o.identity)) (single (at ts o.identity))

abbrev pub asked_at : List Tree → Demand → Asked
asked_at ts demand.All = of_all
asked_at ts (demand.Routine o n b) = of_routine (takers_at ts o) o.number o.strong n (statements_at ts b.now)
asked_at ts (demand.Label o n l) = of_label (takers_at ts o) o.number n l

abbrev pub all_asked : List Tree → List Demand → List Asked
all_asked ts ds = map (asked_at ts) ds

abbrev pub DemandIn : ℕ → Demand → Type 0
DemandIn m demand.All = Unit {0}
DemandIn m (demand.Routine o n b) = o.identity < m
DemandIn m (demand.Label o n l) = o.identity < m

abbrev pub AllDemandsIn : ℕ → List Demand → Type 0
AllDemandsIn m ds = AllByRecursion (DemandIn m) ds
