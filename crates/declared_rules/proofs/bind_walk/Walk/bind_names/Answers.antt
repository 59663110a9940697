-- Proves that the names of all that a `with` names are looked at.
use Rattle.std.proofs.Common.{subst}
use Rattle.tla_tree.specs.Tree.{Name}
use Rattle.pcal_tree.specs.declared.algorithm.Bind.{Bind}
use Rattle.pcal_tree.specs.OffencesRebind.{any_name, rebound}
use Rattle.declared_rules.specs.Telling.{Adds}
use Rattle.declared_rules.specs.Parts.{bind_name}
use Rattle.declared_rules.proofs.TellLaws.{adds_as, list_then, list_done, flat_mapped}
use Rattle.declared_rules.proofs.bind_walk.Walk.bind_names.Goals as goal

pub loop-bind-init : goal.loop-bind-init
loop-bind-init c = λ k g. g

pub loop-bind-preserved : goal.loop-bind-preserved
loop-bind-preserved c = λ k g.
    c.loop-bind.invariant k
    (list_then c.args.sight.now any_name (λ (b : Bind) ms r. rebound ms r (bind_name b)) c.loop-bind.self c.name.new.self k c.args.list.now c.loop-bind.bind-index c.bind-item.result c.bind-item.is c.loop-bind-test.true
    (subst (λ (n : Name). Adds c.args.sight.now any_name c.loop-bind.self c.name.new.self (λ ms r. rebound ms r n)) c.named.ensures (c.in_ok-name.ensures any_name)) g)

pub returns : goal.returns
returns c =
    adds_as c.args.sight.now any_name c.args.self.now c.loop-bind.self _ _ (λ ms r. flat_mapped (rebound ms r) bind_name c.args.list.now)
    (c.loop-bind.invariant c.loop-bind.self (list_done c.args.sight.now any_name (λ (b : Bind) ms r. rebound ms r (bind_name b)) c.loop-bind.self c.args.list.now c.loop-bind.bind-index c.loop-bind-test.false))
