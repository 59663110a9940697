-- Proves that the disjuncts are those of procedures, of what runs, and Terminating.
use Rattle.std.proofs.Common.{◌∷◌, ◌++◌, [], List, cond, codes, map, ap, ◌∙◌, append_assoc, arith}
use Rattle.std.proofs.lemmas.Result.{on_ok_weaker}
use Rattle.module_tree.specs.Module.{Way, call, one_way}
use Rattle.pcal_tree.specs.declared.algorithm.Procedure.{Procedure}
use Rattle.pcal_tree.specs.Algorithm as pure
use Rattle.pcal_tree.specs.Algorithm.{numbered, first_procedure, first_process}
use Rattle.pcal_tree.specs.InMemory.{procedure_at}
use Rattle.module_write.specs.InMemory.{ways_at}
use Rattle.action_builder.specs.NextFormula.{own_way, main_ways}
use Rattle.module_formulas.specs.TakersIn.{taker_at, taken_procedure}
use Rattle.module_formulas.proofs.WayLaws.{main_ways_are}
use Rattle.module_formulas.proofs.next.add_ways.Goals as goal

pub returns-clause-made : goal.returns-clause-made
returns-clause-made c =
    on_ok_weaker c.add_terminating.result (λ h ts P this d.
    let a = c.args.draft.now.algorithm.now in
    let old = ways_at ts c.args.out.now.items in
    let t = taken_procedure (taker_at ts c.args.caller.taker) in
    let first = c.first_procedure-first.ensures ts ∙ ap first_procedure d.algorithm in
    let number = c.in_ok-number.ensures ts ∙ ap first_process d.algorithm in
    let procedures = map (own_way P) (numbered t (first_procedure P.algorithm) P.algorithm.procedures) in
    let mains = main_ways P P.algorithm.main in
    let end = cond c.args.no_terminating [] (one_way (call (codes "Terminating")) ∷ []) in
    let these = ap (λ (ps : List Procedure). map (procedure_at ts) ps) c.deref.ensures.value ∙ ap (λ (b : pure.Algorithm). b.procedures) d.algorithm in
    h ts
    ∙ ap (λ (l : List Way). l ++ end)
    (c.in_ok-add_main.ensures.made ts P this d.naming
    ∙ (λ j. (c.in_ok-add_procedure_ways.ensures.made ts P this d.naming ∙ (λ k. old ++ map (own_way P) (numbered t (first k) (these k)))) j
    ++ (main_ways_are P ts a.main c.in_ok-number.number number ∙ ap (λ (b : pure.Algorithm). main_ways P b.main) d.algorithm) j))
    ∙ append_assoc (old ++ procedures) mains end
    ∙ append_assoc old procedures (mains ++ end))
    c.add_terminating.ensures.made

pub returns-clause-within : goal.returns-clause-within
returns-clause-within c =
    on_ok_weaker c.add_terminating.result (λ h m this taker past ways.
    h m (c.in_ok-add_main.ensures.within m this (omega (arith, past)) (c.in_ok-add_procedure_ways.ensures.within m this taker ways)))
    c.add_terminating.ensures.within
