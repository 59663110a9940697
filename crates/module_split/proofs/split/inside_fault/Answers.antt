use Rattle.std.proofs.Common.{Option, filter, ap, subst, sym, ◌∙◌}
use Rattle.tla_token.specs.Offences.{least}
use Rattle.module_split.specs.declared.split.Algorithm.{Algorithm}
use Rattle.module_tree.specs.AlgorithmText.{AlgorithmText}
use Rattle.module_tree.specs.FileOffences.{algorithm_offences, is_splitting}
use Rattle.module_split.specs.SplitSeen.{IsAlgorithm}
use Rattle.module_split.proofs.split.inside_fault.Goals as goal

pub returns-in-Some : goal.returns-in-Some
returns-in-Some c x ds marks h =
    let P : Option Algorithm → Type 0 = λ o. IsAlgorithm x ds marks o in
    let f = subst P c.in-Some.is h in
    f.fault ∙ ap (λ (o : Option AlgorithmText). least (filter is_splitting (algorithm_offences o))) (sym f.is)

pub returns-in-None : goal.returns-in-None
returns-in-None c x ds marks h =
    let P : Option Algorithm → Type 0 = λ o. IsAlgorithm x ds marks o in
    ap (λ (o : Option AlgorithmText). least (filter is_splitting (algorithm_offences o))) (sym (subst P c.in-None.is h))
