-- Proves that the names of groups are looked at.
use Rattle.std.proofs.Common.{Vec, Global, List, subst}
use Rattle.tla_tree.specs.Tree.{Name}
use Rattle.pcal_tree.specs.OffencesRebind.{rebound_all}
use Rattle.declared_rules.specs.Telling.{Adds}
use Rattle.declared_rules.proofs.TellLaws.{adds_as, list_then, list_done}
use Rattle.declared_rules.proofs.ExprLaws.{each_group}
use Rattle.declared_rules.proofs.bind_walk.Walk.groups.Goals as goal

pub loop-i-init : goal.loop-i-init
loop-i-init c = λ K k g. g

pub loop-i-preserved : goal.loop-i-preserved
loop-i-preserved c = λ K k g.
    c.loop-i.invariant K k
    (list_then c.args.sight.now K (λ (g : Vec Name Global) ms r. rebound_all ms r g.items) c.loop-i.self c.names.new.self k c.args.groups.now c.loop-i.i c.index-groups-i.result c.index-groups-i.is c.loop-i-test.true
    (subst (λ (ns : List Name). Adds c.args.sight.now K c.loop-i.self c.names.new.self (λ ms r. rebound_all ms r ns)) c.deref.ensures.value (c.in_ok-names.ensures K)) g)

pub returns : goal.returns
returns c = λ K.
    adds_as c.args.sight.now K c.args.self.now c.loop-i.self _ _ (λ ms r. each_group ms r c.args.groups.now)
    (c.loop-i.invariant K c.loop-i.self (list_done c.args.sight.now K (λ (g : Vec Name Global) ms r. rebound_all ms r g.items) c.loop-i.self c.args.groups.now c.loop-i.i c.loop-i-test.false))
