-- Proves what a path is after one round.
use Rattle.std.proofs.Common.{[], Option, sym, subst}
use Rattle.std.proofs.lemmas.Result.{IfOk-weaker}
use Rattle.tla_tree.specs.Tree.{no_trees}
use Rattle.pcal_tree.specs.Paths.{again}
use Rattle.pcal_tree.specs.laws.MacroSpots.{before_on, put_trail}
use Rattle.pcal_tree.proofs.SpotCalls.{LikeTrail}
use Rattle.pcal_tree.proofs.SpotGrafts.{putting}
use Rattle.read_rules.specs.declared.assigned.Assigned.{Assigned}
use Rattle.read_rules.specs.Sets.{origins, trail_of}
use Rattle.read_rules.proofs.WalkLaws.{round_like}
use Rattle.read_rules.proofs.walk.round.Goals as goal

pub returns-in-Some : goal.returns-in-Some
returns-in-Some c =
    let inner = c.args.inner.now in
    IfOk-weaker c.put_path.result _ _
    (λ r l g h. subst (λ (p : Option Assigned). LikeTrail (trail_of r) (again (λ q. (g q).end.trail) (trail_of p))) (sym c.in-Some.is)
    (round_like inner g h (origins c.in-Some.field-0) (trail_of r)
    (subst (λ (p : Option Assigned). LikeTrail (trail_of r) (put_trail (putting [] no_trees (before_on (trail_of p))) (trail_of inner.reached.path))) c.in-Some.is l)))
    c.put_path.ensures
