-- Proves that the names of groups are looked at.
use Rattle.std.proofs.Common.{Vec, Global}
use Rattle.tla_tree.specs.Tree.{Name}
use Rattle.declared_rules.proofs.NameLaws.{names_as, names_more, names_all, each_group}
use Rattle.declared_rules.proofs.found.Found.groups.Goals as goal

pub loop-i-preserved : goal.loop-i-preserved
loop-i-preserved c =
    names_more (λ (g : Vec Name Global). g.items) c.args.groups.now c.args.self.now c.loop-i.self c.names.new.self c.loop-i.i c.index-groups-i.result c.index-groups-i.is c.loop-i-test.true
    c.loop-i.invariant (names_as c.loop-i.self c.names.new.self _ _ c.deref.ensures.value c.in_ok-names.ensures)

pub returns : goal.returns
returns c =
    names_as c.args.self.now c.loop-i.self _ _ (each_group c.args.groups.now)
    (names_all (λ (g : Vec Name Global). g.items) c.args.groups.now c.args.self.now c.loop-i.self c.loop-i.i c.loop-i-test.false c.loop-i.invariant)
