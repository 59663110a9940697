-- All that is read or passed on is found, by what is declared.
use Rattle.std.proofs.Common.{subst}
use Rattle.std.proofs.lemmas.Result.{IfOk-weaker}
use Rattle.module_tree.specs.Outside.{Sight}
use Rattle.module_outside.specs.SightIn.{Sees}
use Rattle.module_outside.proofs.OutsideLaws.{sight_by}
use Rattle.module_outside.proofs.outside.found_in.Goals as goal

pub returns-clause-all : goal.returns-clause-all
returns-clause-all c =
    IfOk-weaker c.found_by-found.result _ _ (λ f h.
    h (sight_by c.args.declared.now.extended.items c.args.declared.now.constants.items)
    (subst (λ (w : Sight). Sees c.in_ok-sight.sight w) (λ i. sight_by (c.deref.ensures.value i) (c.deref-2.ensures.value i)) c.in_ok-sight.ensures))
    c.found_by-found.ensures.all
