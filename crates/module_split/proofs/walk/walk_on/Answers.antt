-- A segment more: the walk goes on from behind it.
use Rattle.std.proofs.Common.{sym, subst}
use Rattle.std.specs.Prelude.{All}
use Rattle.std.proofs.lemmas.List.Elements.{All-push}
use Rattle.module_split.specs.StandsSeen.{IsSolid}
use Rattle.module_split.proofs.WalkSteps.{one_more}
use Rattle.module_split.proofs.walk.walk_on.Goals as goal

pub segments-preserved : goal.segments-preserved
segments-preserved c =
    let on = c.in-Some.ensures in
    record {
      at = on.at;
      walked = one_more c.args.text.now c.segments.stands.items c.push.new.self.items c.in-Some.stand c.segments.walker c.in-Some.after _ c.in_ok-push.ensures.items on c.segments.invariant.walked;
      solid = subst (All (IsSolid c.args.text.now)) (sym c.in_ok-push.ensures.items) (All-push (IsSolid c.args.text.now) c.segments.stands.items c.in-Some.stand c.segments.invariant.solid on.solid);
    }
