-- Proves what a path is behind a statement with none in it.
use Rattle.std.proofs.Common.{Option, Some, refl, sym, subst}
use Rattle.pcal_tree.proofs.SpotCalls.{LikeTrail}
use Rattle.read_rules.specs.declared.assigned.Assigned.{Assigned}
use Rattle.read_rules.specs.SeenIn.{trail_stepped}
use Rattle.read_rules.specs.Sets.{trail_of}
use Rattle.read_rules.proofs.WalkLaws.{path_more}
use Rattle.read_rules.proofs.walk.stepped.Goals as goal

pub returns-in_ok-add_all-in-Some : goal.returns-in_ok-add_all-in-Some
returns-in_ok-add_all-in-Some c =
    let step = c.args.step.now in
    let all = c.in-Some.all in
    let more : Assigned = record { earlier = all.earlier; names = c.add_all.new.self } in
    subst (λ (p : Option Assigned). LikeTrail (trail_of (Some more)) (trail_stepped step.names step.stops (trail_of p))) (sym c.in-Some.is)
    (path_more step.names step.stops all more c.if-step.false c.in_ok-add_all-in-Some.ensures refl)
