use Rattle.std.proofs.Common.{sym, ◌∙◌, arith}
use Rattle.module_split.specs.SplitSeen.{is_region_stand}
use Rattle.module_split.proofs.StandSteps.{found_here, not_here, none_there}
use Rattle.module_split.proofs.seek.region_index.Goals as goal

pub returns-then-is_region : goal.returns-then-is_region
returns-then-is_region c = sym (found_here is_region_stand c.args.stands.now c.loop-i.i _ (omega arith) (sym c.is_region.ensures ∙ c.if-is_region.true)) ∙ c.loop-i.invariant

pub loop-i-preserved : goal.loop-i-preserved
loop-i-preserved c = not_here is_region_stand c.args.stands.now c.loop-i.i _ (omega arith) (sym c.is_region.ensures ∙ c.if-is_region.false) ∙ c.loop-i.invariant

pub returns : goal.returns
returns c = sym (none_there is_region_stand c.args.stands.now c.loop-i.i (omega arith)) ∙ c.loop-i.invariant
