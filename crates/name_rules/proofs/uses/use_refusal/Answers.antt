-- Proves that the first offence of all is found.
use Rattle.std.proofs.Common.{List, sym, subst}
use Rattle.std.proofs.lemmas.Result.{IfOk-weaker}
use Rattle.tla_tree.specs.Tree.{Name, words}
use Rattle.module_outside.specs.declared.modules.Modules.{Modules}
use Rattle.module_outside.specs.ModulesIn.{AreModules}
use Rattle.name_rules.proofs.uses.use_refusal.Goals as goal

pub returns : goal.returns
returns c =
    let m = c.modules_among-modules.result in
    let o = c.args.outside.now in
    IfOk-weaker c.first_offence-first.result _ _ (λ r h.
    h c.new-known.ensures.none
    (subst (λ (z : Modules). AreModules z (words o.extended.items)) (sym c.new-known.ensures.modules) (subst (λ (ns : List Name). AreModules m (words ns)) c.deref.ensures.value c.modules_among-modules.ensures)))
    c.first_offence-first.ensures
