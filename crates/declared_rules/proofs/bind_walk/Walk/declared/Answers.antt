-- Proves that the names of declarations are looked at.
use Rattle.pcal_tree.specs.declared.algorithm.Declaration.{Declaration}
use Rattle.pcal_tree.specs.OffencesRebind.{any_name, rebound}
use Rattle.declared_rules.proofs.TellLaws.{adds_as, list_then, list_done, flat_mapped}
use Rattle.declared_rules.proofs.bind_walk.Walk.declared.Goals as goal

pub loop-i-init : goal.loop-i-init
loop-i-init c = λ k g. g

pub loop-i-preserved : goal.loop-i-preserved
loop-i-preserved c = λ k g.
    c.loop-i.invariant k
    (list_then c.args.sight.now any_name (λ (d : Declaration) ms r. rebound ms r d.name) c.loop-i.self c.name.new.self k c.args.list.now c.loop-i.i c.index-list-i.result c.index-list-i.is c.loop-i-test.true
    (c.in_ok-name.ensures any_name) g)

pub returns : goal.returns
returns c =
    adds_as c.args.sight.now any_name c.args.self.now c.loop-i.self _ _ (λ ms r. flat_mapped (rebound ms r) (λ (d : Declaration). d.name) c.args.list.now)
    (c.loop-i.invariant c.loop-i.self (list_done c.args.sight.now any_name (λ (d : Declaration) ms r. rebound ms r d.name) c.loop-i.self c.args.list.now c.loop-i.i c.loop-i-test.false))
