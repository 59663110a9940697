-- Proves that the conjuncts of procedures and of what runs are added.
use Rattle.std.proofs.Common.{◌≡◌, ◌≤◌, ◌++◌, List, length, map, sym, ap, subst, ◌∙◌, arith}
use Rattle.std.specs.List.{flat_map}
use Rattle.std.proofs.lemmas.Result.{on_ok_weaker}
use Rattle.tla_tree.specs.Pool.{at}
use Rattle.tla_tree.specs.Nesting.{greatest}
use Rattle.tla_tree.proofs.PoolNumbers.{AllBelow-more, map_at-kept}
use Rattle.pcal_tree.specs.declared.algorithm.Procedure.{Procedure}
use Rattle.pcal_tree.specs.Algorithm as pure
use Rattle.pcal_tree.specs.Algorithm.{numbered, first_procedure}
use Rattle.pcal_tree.specs.InMemory.{procedure_at, main_at, past_procedure}
use Rattle.pcal_tree.specs.Takers.{Taken, taken_main}
use Rattle.action_builder.specs.InitialFormulas.{locals_start}
use Rattle.action_builder.specs.LabelActions.{procedure_takers, taken_procedures}
use Rattle.draft.proofs.Grown.{draft_kept}
use Rattle.module_formulas.specs.TakersIn.{taken_procedure}
use Rattle.module_formulas.proofs.Behind.{adds_then}
use Rattle.module_formulas.proofs.RoutineLaws.{taken_are}
use Rattle.module_formulas.proofs.init.add_locals.Goals as goal

pub add_procedures-requires-clause-there : goal.add_procedures-requires-clause-there
add_procedures-requires-clause-there c =
    subst (λ (ps : List Procedure). greatest (map past_procedure ps) ≤ length c.procedure_taker.new.pool) (sym c.deref.ensures.value) (omega (arith, c.requires.there, c.in_ok-taker.ensures.kept.longer))

pub add_procedures-requires-clause-below : goal.add_procedures-requires-clause-below
add_procedures-requires-clause-below c = AllBelow-more (length c.args.pool.now) (length c.procedure_taker.new.pool) c.args.out.now.items c.in_ok-taker.ensures.kept.longer c.requires.below

pub returns-clause-made : goal.returns-clause-made
returns-clause-made c =
    let ts = c.args.pool.now in
    let us = c.procedure_taker.new.pool in
    let vs = c.add_procedures.new.pool in
    let a = c.args.draft.now.algorithm.now in
    let taker = c.in_ok-taker.ensures in
    let said = c.in_ok-add_procedures.ensures in
    on_ok_weaker c.add_main.result (λ h P d number.
    let later = draft_kept ts us taker.kept c.args.draft.now P d in
    let last = draft_kept us vs said.kept c.args.draft.now P later in
    let main : main_at ts a.main ≡ P.algorithm.main = ap (λ (b : pure.Algorithm). b.main) d.algorithm in
    let first : c.first_procedure-first.result ≡ first_procedure P.algorithm = c.first_procedure-first.ensures ts ∙ ap first_procedure d.algorithm in
    let these : map (procedure_at us) c.deref.result.now ≡ P.algorithm.procedures =
    ap (λ (ps : List Procedure). map (procedure_at us) ps) c.deref.ensures.value ∙ ap (λ (b : pure.Algorithm). b.procedures) later.algorithm in
    adds_then ts vs c.add_main.new.pool c.args.out.now.items c.add_procedures.new.out.items c.add_main.new.out.items
    (flat_map (locals_start P) (taken_procedures P.algorithm)) (flat_map (locals_start P) (taken_main P.algorithm P.algorithm.main))
    (said.made P later
    ∙ (λ j. map_at-kept ts us c.args.out.now.items taker.kept c.requires.below j ++ flat_map (locals_start P) (numbered (taken_procedure ((taker.stands ts ∙ ap procedure_takers main) j)) (first j) (these j)))
    ∙ ap (λ (l : List Taken). map (at ts) c.args.out.now.items ++ flat_map (locals_start P) l) (taken_are (procedure_takers P.algorithm.main) (first_procedure P.algorithm) P.algorithm.procedures))
    (h P last number ∙ ap (λ (b : pure.Algorithm). map (at vs) c.add_procedures.new.out.items ++ flat_map (locals_start P) (taken_main P.algorithm b.main)) last.algorithm))
    c.add_main.ensures.made
