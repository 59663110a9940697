-- Proves what is seen at a statement with none in it.
use Rattle.std.proofs.Common.{List, Option, false, refl, ap, subst}
use Rattle.pcal_tree.specs.laws.MacroSpots.{on_trail}
use Rattle.pcal_tree.proofs.SpotCalls.{LikeTrail}
use Rattle.read_rules.specs.declared.assigned.Assigned.{Assigned}
use Rattle.read_rules.specs.declared.uses.Use.{Use}
use Rattle.read_rules.specs.SeenIn.{trail_stepped}
use Rattle.read_rules.specs.Sets.{trail_of}
use Rattle.read_rules.specs.UsesIn.{uses_of}
use Rattle.read_rules.proofs.WalkLaws.{sees_as, pass_walks}
use Rattle.read_rules.proofs.walk.Walk.pass.Goals as goal

pub returns : goal.returns
returns c =
    let old = c.args.self.now in
    let step = c.args.step.now in
    let mid = c.see.new.self in
    pass_walks old mid (record { seen = mid.seen; labelled = false; path = c.in_ok-self.field-0 }) (uses_of step.uses.items) step.names step.stops
    (sees_as old mid _ _ (ap (λ (us : List Use). on_trail (trail_of old.path) (uses_of us)) c.deref.ensures.value) c.in_ok-see.ensures) refl refl
    (subst (λ (p : Option Assigned). LikeTrail (trail_of c.in_ok-self.field-0) (trail_stepped step.names step.stops (trail_of p))) c.take-before.ensures.value c.in_ok-self.ensures)
