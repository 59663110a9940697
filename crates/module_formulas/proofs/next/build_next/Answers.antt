-- Proves that the disjuncts are those of Next.
use Rattle.std.proofs.Common.{◌∷◌, ◌++◌, [], List, length, cond, codes, map, sym, ap, subst, ◌∙◌, arith}
use Rattle.module_tree.specs.Module.{call, one_way}
use Rattle.pcal_tree.specs.Algorithm as pure
use Rattle.pcal_tree.specs.Algorithm.{first_procedure}
use Rattle.pcal_tree.specs.Takers.{Taken}
use Rattle.action_builder.specs.LabelActions.{procedure_takers}
use Rattle.action_builder.specs.NextFormula.{own_way, main_ways}
use Rattle.draft.proofs.Grown.{draft_kept}
use Rattle.module_write.specs.InMemory.{ways_at, WaysIn}
use Rattle.module_formulas.specs.MainWays.{ways_of}
use Rattle.module_formulas.proofs.RoutineLaws.{taken_are}
use Rattle.module_formulas.proofs.next.build_next.Goals as goal

pub returns-clause-made : goal.returns-clause-made
returns-clause-made c = λ P d.
    let ts = c.args.pool.now in
    let us = c.name_of.new.pool in
    let vs = c.procedure_taker.new.pool in
    let name = c.in_ok-this.ensures in
    let taker = c.in_ok-taker.ensures in
    let later = draft_kept us vs taker.kept c.args.draft.now P (draft_kept ts us name.kept c.args.draft.now P d) in
    let takers = taker.stands ts ∙ ap (λ (a : pure.Algorithm). procedure_takers a.main) d.algorithm in
    c.in_ok-add_ways.ensures.made vs P (taker.kept.same c.in_ok-this.this name.within ∙ name.tree) later
    ∙ (λ j. ways_at vs (c.new-ways.ensures.items j) ++ ways_of c.args.no_terminating P (takers j))
    ∙ ap (λ (l : List Taken). map (own_way P) l ++ (main_ways P P.algorithm.main ++ cond c.args.no_terminating [] (one_way (call (codes "Terminating")) ∷ [])))
    (taken_are (procedure_takers P.algorithm.main) (first_procedure P.algorithm) P.algorithm.procedures)

pub returns-clause-within : goal.returns-clause-within
returns-clause-within c =
    let taker = c.in_ok-taker.ensures in
    c.in_ok-add_ways.ensures.within (length c.procedure_taker.new.pool) (omega (arith, c.in_ok-this.ensures.within, taker.kept.longer)) taker.within
    (omega (arith, c.requires, c.in_ok-this.ensures.kept.longer, taker.kept.longer)) (subst (WaysIn (length c.procedure_taker.new.pool)) (sym c.new-ways.ensures.items) tt)
