-- Proves that all that is seen is kept.
use Rattle.std.proofs.Common.{List, Some, subst}
use Rattle.pcal_tree.specs.laws.MacroSpots.{on_trail}
use Rattle.read_rules.specs.OnceIn.{Keeps}
use Rattle.read_rules.specs.Pruned.{only}
use Rattle.read_rules.specs.WantedIn.{wants}
use Rattle.read_rules.specs.Sets.{origins}
use Rattle.read_rules.specs.UsesIn.{uses_of}
use Rattle.read_rules.specs.declared.uses.Use.{Use}
use Rattle.read_rules.proofs.KeptLaws.{keeps_none, kept_more, kept_all}
use Rattle.read_rules.proofs.once.Kept.keep_groups.Goals as goal

pub loop-group-init : goal.loop-group-init
loop-group-init c = keeps_none c.args.self.now.uses.entries

pub loop-group-preserved : goal.loop-group-preserved
loop-group-preserved c =
    kept_more (wants c.args.wanted.now) c.args.self.now.uses.entries c.loop-group.self.uses.entries c.keep_uses.new.self.uses.entries c.args.groups.now c.loop-group.group-index
    c.group-item.result c.group-item.is c.loop-group-test.true c.loop-group.invariant
    (subst (λ (us : List Use). Keeps c.loop-group.self.uses.entries c.keep_uses.new.self.uses.entries (only (wants c.args.wanted.now) (on_trail (Some (origins c.group-item.result.after)) (uses_of us)))) c.deref.ensures.value c.in_ok-keep_uses.ensures)

pub returns : goal.returns
returns c = kept_all (wants c.args.wanted.now) c.args.self.now.uses.entries c.loop-group.self.uses.entries c.args.groups.now c.loop-group.group-index c.loop-group-test.false c.loop-group.invariant
