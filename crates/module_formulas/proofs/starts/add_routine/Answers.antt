-- Proves that the conjuncts of a routine's parameters and variables are added.
use Rattle.std.proofs.Common.{refl}
use Rattle.std.proofs.lemmas.Result.{on_ok_weaker}
use Rattle.draft.proofs.Grown.{draft_kept}
use Rattle.module_formulas.proofs.Grown.{taker_in-kept}
use Rattle.module_formulas.proofs.StartLaws.{local_is}
use Rattle.module_formulas.proofs.RoutineLaws.{routine_adds}
use Rattle.module_formulas.proofs.starts.add_routine.Goals as goal

pub add_starts-requires-2-clause-within : goal.add_starts-requires-2-clause-within
add_starts-requires-2-clause-within c = taker_in-kept c.args.pool.now c.add_starts.new.pool c.in_ok-add_starts.ensures.kept c.args.taker c.requires.within

pub returns-clause-made : goal.returns-clause-made
returns-clause-made c =
    let ts = c.args.pool.now in
    let us = c.add_starts.new.pool in
    let said = c.in_ok-add_starts.ensures in
    on_ok_weaker c.add_starts-2.result (λ h P u d n p v.
    let its = local_is _ ts c.args.draft.now P u c.args.params.now c.args.variables.now d refl n p v c.in_ok-locals.ensures in
    routine_adds ts us c.add_starts-2.new.pool said.kept P u c.args.taker c.requires.within c.args.params.now c.args.variables.now c.requires.then p v
    c.args.out.now.items c.add_starts.new.out.items c.add_starts-2.new.out.items (said.made P u d its) (h P u (draft_kept ts us said.kept c.args.draft.now P d) its))
    c.add_starts-2.ensures.made
