-- Proves what a path is after any number of rounds.
use Rattle.std.proofs.Common.{Option, sym, subst}
use Rattle.std.proofs.lemmas.Result.{IfOk-weaker}
use Rattle.pcal_tree.proofs.SpotCalls.{LikeTrail}
use Rattle.read_rules.specs.declared.assigned.Assigned.{Assigned}
use Rattle.read_rules.specs.SeenIn.{rounds_of}
use Rattle.read_rules.specs.Sets.{origins, trail_of}
use Rattle.read_rules.proofs.WalkLaws.{rounds_nowhere, rounds_some}
use Rattle.read_rules.proofs.walk.all_rounds.Goals as goal

pub returns-in-None : goal.returns-in-None
returns-in-None c =
    IfOk-weaker c.round.result _ _
    (λ r l g h. subst (λ (p : Option Assigned). LikeTrail (trail_of r) (rounds_of g (trail_of p))) (sym c.in-None.is) (rounds_nowhere c.args.inner.now g h (trail_of r) (l g h))) c.round.ensures

pub returns-in_ok-once-in-Some : goal.returns-in_ok-once-in-Some
returns-in_ok-once-in-Some c =
    IfOk-weaker c.join.result _ _
    (λ r l g h. subst (λ (p : Option Assigned). LikeTrail (trail_of r) (rounds_of g (trail_of p))) (sym c.in-Some.is)
    (rounds_some g (origins c.in-Some.all) (trail_of r) (trail_of c.in_ok-once-in-Some.once) l (c.in_ok-once-in-Some.ensures g h))) c.join.ensures
