-- One more module is looked at.
use Rattle.std.proofs.Common.{◌∙◌, ap}
use Rattle.tla_tree.specs.Tree.{Name}
use Rattle.module_outside.specs.ModulesIn.{with_module}
use Rattle.module_outside.proofs.ModuleLaws.{names_extended}
use Rattle.module_outside.proofs.modules.modules_among.Goals as goal

pub loop-one-preserved : goal.loop-one-preserved
loop-one-preserved c =
    names_extended c.loop-one.modules _ c.args.names.now c.loop-one.one-index c.one-item.result c.one-item.is c.loop-one-test.true
    (c.with-modules.ensures ∙ ap (with_module c.loop-one.modules) (c.bytes.ensures ∙ ap (λ (n : Name). n.word) c.one.view_is)) c.loop-one.invariant
