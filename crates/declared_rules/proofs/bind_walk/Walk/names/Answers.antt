-- Proves that names that are bound are looked at.
use Rattle.pcal_tree.specs.OffencesRebind.{rebound}
use Rattle.declared_rules.proofs.TellLaws.{list_then, list_done}
use Rattle.declared_rules.proofs.bind_walk.Walk.names.Goals as goal

pub loop-name-init : goal.loop-name-init
loop-name-init c = λ K k g. g

pub loop-name-preserved : goal.loop-name-preserved
loop-name-preserved c = λ K k g.
    c.loop-name.invariant K k
    (list_then c.args.sight.now K (λ n ms r. rebound ms r n) c.loop-name.self c.name.new.self k c.args.names.now c.loop-name.name-index c.name-item.result c.name-item.is c.loop-name-test.true (c.in_ok-name.ensures K) g)

pub returns : goal.returns
returns c = λ K. c.loop-name.invariant K c.loop-name.self (list_done c.args.sight.now K (λ n ms r. rebound ms r n) c.loop-name.self c.args.names.now c.loop-name.name-index c.loop-name-test.false)
