-- Proves that uses are seen.
use Rattle.std.proofs.Common.{Option, refl, sym, subst}
use Rattle.pcal_tree.proofs.SpotCalls.{SeenLike}
use Rattle.pcal_tree.specs.laws.MacroSpots.{on_trail}
use Rattle.read_rules.specs.declared.assigned.Assigned.{Assigned}
use Rattle.read_rules.specs.SeenIn.{group_seen}
use Rattle.read_rules.specs.Sets.{trail_of}
use Rattle.read_rules.specs.UsesIn.{uses_of}
use Rattle.read_rules.proofs.WalkLaws.{sees_nowhere, sees_group}
use Rattle.read_rules.proofs.walk.Walk.see.Goals as goal

pub returns-in-None : goal.returns-in-None
returns-in-None c = sees_nowhere c.args.self.now (uses_of c.args.uses.now) c.in-None.is

pub returns-in_ok-push-in-Some : goal.returns-in_ok-push-in-Some
returns-in_ok-push-in-Some c =
    let old = c.args.self.now in
    let us = uses_of c.args.uses.now in
    let g = c.in_ok-group_here-in-Some.field-0 in
    sees_group old (record { seen = c.push.new.self; labelled = old.labelled; path = old.path }) g (on_trail (trail_of old.path) us) refl refl c.in_ok-push-in-Some.ensures.items
    (subst (λ (p : Option Assigned). SeenLike (group_seen g) (on_trail (trail_of p) us)) (sym c.in-Some.is) c.in_ok-group_here-in-Some.ensures)
