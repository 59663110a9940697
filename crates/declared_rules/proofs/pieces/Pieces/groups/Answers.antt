-- Proves that the names of groups are gathered.
use Rattle.std.proofs.Common.{Vec, Global, List, map, subst}
use Rattle.tla_tree.specs.Tree.{Name, Word}
use Rattle.pcal_tree.specs.OffencesRebind.{binds}
use Rattle.declared_rules.specs.Gathering.{Gathers}
use Rattle.declared_rules.proofs.PieceLaws.{gathers_as, list_then, list_done, each_group}
use Rattle.declared_rules.proofs.pieces.Pieces.groups.Goals as goal

pub loop-i-init : goal.loop-i-init
loop-i-init c = λ k g. g

pub loop-i-preserved : goal.loop-i-preserved
loop-i-preserved c = λ k g.
    c.loop-i.invariant k
    (list_then (λ (g : Vec Name Global) (xs : List Word). map binds g.items) c.loop-i.self c.names.new.self k c.args.groups.now c.loop-i.i c.index-groups-i.result c.index-groups-i.is c.loop-i-test.true
    (subst (λ (ns : List Name). Gathers c.loop-i.self c.names.new.self (λ xs. map binds ns)) c.deref.ensures.value c.in_ok-names.ensures) g)

pub returns : goal.returns
returns c =
    gathers_as c.args.self.now c.loop-i.self _ _ (λ xs. each_group c.args.groups.now)
    (c.loop-i.invariant c.loop-i.self (list_done (λ (g : Vec Name Global) (xs : List Word). map binds g.items) c.loop-i.self c.args.groups.now c.loop-i.i c.loop-i-test.false))
