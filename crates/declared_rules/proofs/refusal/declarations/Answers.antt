-- Proves that the first offence that is found is the first one by the rules, and which names are taken.
use Rattle.std.proofs.Common.{Bool, false, List, length, ap, subst, ◌∙◌}
use Rattle.std.proofs.lemmas.List.{length-replicate}
use Rattle.tla_tree.specs.Tree.{Name, words}
use Rattle.pcal_tree.specs.Offences.{first}
use Rattle.module_outside.specs.declared.modules.Modules.{Modules}
use Rattle.module_outside.specs.ModulesIn.{AreModules}
use Rattle.module_outside.specs.WholeAt.{outside_at}
use Rattle.declared_rules.specs.Refusal.{offences_found}
use Rattle.declared_rules.proofs.SameRefusal.{same_refusal_found}
use Rattle.declared_rules.proofs.refusal.declarations.Goals as goal

pub returns-in-Ok-clause-refusal : goal.returns-in-Ok-clause-refusal
returns-in-Ok-clause-refusal c =
    let k = c.in_ok-walked.ensures.found in
    c.in-Ok.ensures.first c.len.result k.1 k.2
    ∙ ap (λ (m : Modules). first (offences_found m c.args.pool.now c.args.algorithm.now (outside_at c.args.pool.now c.args.outside.now))) k.0
    ∙ same_refusal_found c.modules_among-modules.result c.args.pool.now c.args.algorithm.now (outside_at c.args.pool.now c.args.outside.now)
    (subst (λ (ns : List Name). AreModules c.modules_among-modules.result (words ns)) c.deref.ensures.value c.modules_among-modules.ensures)

pub returns-in-Ok-clause-taken : goal.returns-in-Ok-clause-taken
returns-in-Ok-clause-taken c = let k = c.in_ok-walked.ensures.met in c.in-Ok.ensures.taken c.len.result k.0 k.1

pub all-requires-clause-found : goal.all-requires-clause-found
all-requires-clause-found c = ap (λ (l : List Bool). length l) c.in_ok-walked.ensures.found.2 ∙ length-replicate c.len.result false ∙ c.len.ensures

pub all-requires-clause-met : goal.all-requires-clause-met
all-requires-clause-met c = ap (λ (l : List Bool). length l) c.in_ok-walked.ensures.met.1 ∙ length-replicate c.len.result false ∙ c.len.ensures
