-- Proves that the names are the same.
use Rattle.std.proofs.Common.{◌∙◌}
use Rattle.std.proofs.lemmas.List.{take_all}
use Rattle.declared_rules.proofs.KeepLaws.{copied_more}
use Rattle.declared_rules.proofs.macros.add_copies.Goals as goal

pub loop-name-init : goal.loop-name-init
loop-name-init c = λ e. e

pub loop-name-preserved : goal.loop-name-preserved
loop-name-preserved c = λ e.
    copied_more c.args.names.now c.loop-name.name-index c.name-item.result c.in_ok-copied.field-0 c.loop-name.list.items c.push.new.self.items c.name-item.is c.loop-name-test.true c.in_ok-copied.ensures c.in_ok-push.ensures.items (c.loop-name.invariant e)

pub returns : goal.returns
returns c = λ e. c.loop-name.invariant e ∙ take_all c.loop-name.name-index c.args.names.now c.loop-name-test.false
