-- Proves that what is filled is the translation.
use Rattle.std.proofs.Common.{length, ap, ◌∙◌}
use Rattle.tla_tree.specs.Tree.{Tree}
use Rattle.tla_tree.specs.Pool.{at}
use Rattle.draft.proofs.Grown.{draft_kept}
use Rattle.region_forms.specs.RegionBySteps.{region_by_steps}
use Rattle.module_builder.proofs.region.region.Goals as goal

pub returns-clause-made : goal.returns-clause-made
returns-clause-made c = λ P d runs acts.
    let us = c.all_done.new.pool in
    let done = c.in_ok-termination.ensures in
    let e = c.in_ok-termination.termination in
    c.in_ok-add_units.ensures.made P (draft_kept c.args.pool.now us done.kept c.args.draft.now P d) runs acts (c.begun-region.ensures.within (length us) done.within)
    ∙ ap (λ (t : Tree). record (region_by_steps c.args.no_terminating P) { termination = t }) (ap (at us) c.begun-region.ensures.same ∙ done.tree P d)

pub returns-clause-within : goal.returns-clause-within
returns-clause-within c = c.in_ok-add_units.ensures.within (c.begun-region.ensures.within (length c.all_done.new.pool) c.in_ok-termination.ensures.within)
