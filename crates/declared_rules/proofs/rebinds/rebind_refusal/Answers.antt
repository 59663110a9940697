-- Proves that the first offence is found.
use Rattle.std.proofs.Common.{List, subst}
use Rattle.std.proofs.lemmas.Result.{IfOk-weaker}
use Rattle.tla_tree.specs.Tree.{Name, words}
use Rattle.module_outside.specs.ModulesIn.{AreModules}
use Rattle.declared_rules.proofs.rebinds.rebind_refusal.Goals as goal

pub returns : goal.returns
returns c =
    let m = c.modules_among-modules.result in
    IfOk-weaker c.with_sights-found.result _ _ (λ r h.
    h m (subst (λ (ns : List Name). AreModules m (words ns)) c.deref.ensures.value c.modules_among-modules.ensures) c.new-sights.ensures) c.with_sights-found.ensures
