-- Proves that what is seen in a body is seen with arguments put in.
use Rattle.std.proofs.Common.{List, refl, subst}
use Rattle.std.specs.List.{flat_map}
use Rattle.tla_tree.specs.Pool.{trees_at}
use Rattle.pcal_tree.specs.laws.MacroSpots.{before_on, put_seen}
use Rattle.pcal_tree.proofs.SpotGrafts.{putting}
use Rattle.read_rules.specs.declared.walk.Group.{Group}
use Rattle.read_rules.specs.declared.walk.Walk.{Walk}
use Rattle.read_rules.specs.SeenIn.{Gains, seen_of}
use Rattle.read_rules.specs.Sets.{trail_of}
use Rattle.read_rules.proofs.WalkLaws.{take_walks}
use Rattle.read_rules.proofs.walk.Walk.take.Goals as goal

pub returns : goal.returns
returns c = λ r w.
    let ps = c.args.params.now in
    let ts = trees_at c.args.pool.now c.args.args.now in
    let old = c.args.self.now in
    let mid : Walk = record { seen = c.add_groups.new.seen; labelled = old.labelled; path = old.path } in
    let way = c.args.way.now in
    take_walks ps ts old mid (record { seen = mid.seen; labelled = way.labelled; path = c.in_ok-self.field-0 }) way r
    (subst (λ (gs : List Group). Gains old.seen.items mid.seen.items (flat_map (put_seen (putting ps ts (before_on (trail_of old.path)))) (seen_of gs))) c.deref.ensures.value c.in_ok-add_groups.ensures)
    refl refl c.in_ok-self.ensures w
