-- Proves what is seen in a loop.
use Rattle.std.proofs.Common.{Option, None, false, refl, subst}
use Rattle.pcal_tree.proofs.SpotCalls.{LikeTrail}
use Rattle.read_rules.specs.declared.assigned.Assigned.{Assigned}
use Rattle.read_rules.specs.declared.walk.Walk.{Walk}
use Rattle.read_rules.specs.SeenIn.{rounds_of}
use Rattle.read_rules.specs.Sets.{trail_of}
use Rattle.read_rules.specs.UsesIn.{uses_of}
use Rattle.std.specs.Prelude.{cond}
use Rattle.read_rules.proofs.WalkLaws.{loop_walks}
use Rattle.read_rules.proofs.walk.Walk.go_round.Goals as goal

pub returns-in-Ok : goal.returns-in-Ok
returns-in-Ok c = λ g h.
    let old = c.args.self.now in
    let one : Walk = record { seen = old.seen; labelled = old.labelled; path = c.in_ok-self.field-0 } in
    let three = c.take_ways.new.self in
    loop_walks c.args.inner.now g h (uses_of c.args.uses.now) old one c.see.new.self three (record { seen = three.seen; labelled = false; path = c.in_ok-after.after }) refl
    (subst (λ (p : Option Assigned). LikeTrail (trail_of c.in_ok-self.field-0) (cond old.labelled (trail_of p) (rounds_of g (trail_of p)))) c.take-before.ensures.value (c.in_ok-self.ensures g h))
    c.in_ok-see.ensures c.in_ok-after.ensures (c.in-Ok.ensures (g None) h.symbol h.unreached h.reached) refl refl
