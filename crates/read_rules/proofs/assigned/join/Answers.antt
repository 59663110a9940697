-- Proves that one of two paths has assigned what either has.
use Rattle.std.proofs.Common.{Option, Some, refl, sym, subst}
use Rattle.pcal_tree.specs.laws.MacroSpots.{joined}
use Rattle.pcal_tree.proofs.SpotCalls.{LikeTrail}
use Rattle.read_rules.specs.declared.assigned.Assigned.{Assigned}
use Rattle.read_rules.specs.Sets.{trail_of}
use Rattle.read_rules.proofs.PathLaws.{like_itself, like_join}
use Rattle.read_rules.proofs.assigned.join.Goals as goal

pub returns-in-None : goal.returns-in-None
returns-in-None c =
    let q = trail_of c.args.second in
    subst (λ (p : Option Assigned). LikeTrail q (joined (trail_of p) q)) (sym c.in-None.is) (like_itself q)

pub returns-in-None-second : goal.returns-in-None-second
returns-in-None-second c =
    let q = trail_of (Some c.in-Some.all) in
    subst (λ (p : Option Assigned). LikeTrail q (joined (trail_of p) (trail_of c.args.second))) (sym c.in-Some.is)
    (subst (λ (p : Option Assigned). LikeTrail q (joined q (trail_of p))) (sym c.in-None-second.is) (λ f. refl))

pub returns-in_ok-both-in-Some-second : goal.returns-in_ok-both-in-Some-second
returns-in_ok-both-in-Some-second c =
    let a = c.in-Some.all in
    let new = c.in_ok-both-in-Some-second.field-0 in
    let b = c.in-Some-second.more in
    subst (λ (p : Option Assigned). LikeTrail (trail_of (Some new)) (joined (trail_of p) (trail_of c.args.second))) (sym c.in-Some.is)
    (subst (λ (p : Option Assigned). LikeTrail (trail_of (Some new)) (joined (trail_of (Some a)) (trail_of p))) (sym c.in-Some-second.is) (like_join a b new c.in_ok-both-in-Some-second.ensures))
